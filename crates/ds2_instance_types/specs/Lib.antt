-- What the code holds of the instances of a unit.
pub mod ConstantArguments
pub mod PackageInstances
pub mod HashDeclarations
pub mod Declarations
pub mod TypedInstanceLists
pub mod FurtherInstances
