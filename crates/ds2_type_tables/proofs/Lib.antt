pub mod TableLemmas
pub mod ClashLemmas
pub mod ScopeTables
pub mod CallableLemmas
pub mod ObjectLemmas
