pub mod SlotHashes
pub mod SlotSteps
pub mod LoadedHashes
