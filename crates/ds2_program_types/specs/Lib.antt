-- What the code holds of a unit, of its outputs, tables, instances and methods, and of what it becomes.
pub mod UnitsAtHand
pub mod MadeOutputs
pub mod UnitScopes
pub mod MethodRules
pub mod UnitRules
pub mod TypedMethodLists
pub mod PackageMethods
pub mod ProgramParts
pub mod TypedPrograms
pub mod ThreadHeads
