pub mod RetainedForms
pub mod DeclaredForms
pub mod MadeForms
pub mod OutputColumns
