pub mod Dropped
pub mod Emit
