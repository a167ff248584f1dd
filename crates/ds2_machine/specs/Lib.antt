pub mod AtRest
pub mod MachineView
pub mod Executable
pub mod Sink
pub mod Kept
