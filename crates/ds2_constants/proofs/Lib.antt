pub mod TableLemmas
pub mod Collected
pub mod CollectedStatements
pub mod TextLemmas
