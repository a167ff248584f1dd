pub mod BoundedJumps
pub mod CodeScan
pub mod OperandStack
pub mod ProgramTest
pub mod SeenNames
pub mod SignatureCodes
