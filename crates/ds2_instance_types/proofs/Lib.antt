pub mod ListForms
pub mod ConstantForms
pub mod PackageForms
pub mod HashForms
pub mod DeclarationForms
