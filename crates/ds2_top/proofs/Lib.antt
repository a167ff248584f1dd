pub mod Plain
pub mod CommandStops
pub mod FaultSteps
pub mod Promises
