pub mod Placed
pub mod InTurn
pub mod Rest
