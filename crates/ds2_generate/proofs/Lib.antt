pub mod WalkLemmas
pub mod UnitLemmas
pub mod GeneratedLemmas
pub mod OutputLemmas
pub mod SlotLemmas
pub mod PartLemmas
pub mod StageLemmas
