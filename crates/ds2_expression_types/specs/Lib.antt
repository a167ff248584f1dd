pub mod Arguments
pub mod FurtherValues
pub mod ChainLinks
pub mod Growth
