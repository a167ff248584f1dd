pub mod IfOks
pub mod KnownNames
pub mod ObjectForms
pub mod References
pub mod PassingForms
pub mod MethodResults
pub mod ArgumentWalk
pub mod Fronts
