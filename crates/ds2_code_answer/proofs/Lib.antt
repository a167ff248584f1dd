pub mod ScaledLoads
pub mod FittingReadings
pub mod Endings
pub mod StageAnswers
pub mod CodeSample
