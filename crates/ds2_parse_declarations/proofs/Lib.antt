pub mod ReadingLaws
pub mod DeclarationLaws
pub mod UnitSteps
