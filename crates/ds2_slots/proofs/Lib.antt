pub mod Answered
pub mod LoadedSteps
pub mod Shifts
pub mod SlotSteps
pub mod SlotValues
