pub mod ProgramSpelling
pub mod ProgramRules
