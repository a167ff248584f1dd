pub mod MisplacedLemmas
pub mod MisplacedRows
pub mod InstanceLemmas
pub mod TestForms
