pub mod FirstPlaces
pub mod ArgumentForms
pub mod ChainWalk
pub mod Told
