pub mod ObjectSpelling
pub mod MadeTables
pub mod ObjectExamples
