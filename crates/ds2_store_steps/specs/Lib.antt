-- The steps of a command at a store.
pub mod PlanOutcomes
pub mod Halts
pub mod FileReads
pub mod TableReads
pub mod OutputAsks
pub mod CodeReferences
