pub mod ProgramLemmas
pub mod MadeSteps
pub mod ReadSteps
pub mod WriteSteps
pub mod AgainLemmas
