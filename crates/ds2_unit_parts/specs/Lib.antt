-- The outputs that a unit makes and the names that it retains.
pub mod RetainedNames
pub mod TypedOutputs
