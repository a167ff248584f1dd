pub mod PartViews
pub mod ControlForms
pub mod TestForms
pub mod StatementForms
pub mod ReturningForms
pub mod BranchForms
pub mod CountForms
