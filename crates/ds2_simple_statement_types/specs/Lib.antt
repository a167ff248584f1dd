-- What the code holds of parts of statements, and of statements that hold no others.
pub mod BothParts
pub mod StatementOutcomes
pub mod MethodScopes
pub mod Targets
pub mod Settings
pub mod ReturnedAndWritten
