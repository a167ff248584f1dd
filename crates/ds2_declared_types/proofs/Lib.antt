pub mod NameForms
pub mod VariableForms
pub mod InputForms
pub mod ColumnForms
pub mod UnitReadings
pub mod ThreadTrees
