pub mod InstrLemmas
pub mod ReadSteps
