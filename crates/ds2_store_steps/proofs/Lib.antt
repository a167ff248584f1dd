pub mod Leading
pub mod FileSteps
pub mod TableSteps
pub mod OutputSteps
pub mod ReferenceSteps
