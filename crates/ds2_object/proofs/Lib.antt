pub mod ObjectLemmas
pub mod ValidLemmas
pub mod ObjectSteps
pub mod LinkSteps
pub mod MadeLemmas
pub mod WalkLemmas
