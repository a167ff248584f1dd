pub mod NameExamples
pub mod InstanceExamples
pub mod RuleExamples
pub mod FurtherNameExamples
pub mod FunctionRows
