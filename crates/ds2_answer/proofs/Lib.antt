pub mod Numbers
pub mod StoredPlans
pub mod OptionSteps
pub mod ProgramEndings
pub mod TextLines
pub mod Amounts
pub mod Draws
pub mod Fitting
