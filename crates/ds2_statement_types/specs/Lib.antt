-- What the code holds of statements and of their parts.
pub mod StatementParts
pub mod Branches
pub mod Controls
pub mod TestRules
pub mod Returning
