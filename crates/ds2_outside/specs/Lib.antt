pub mod Calls
pub mod Causes
pub mod Files
pub mod LogView
pub mod Memory
pub mod Tears
pub mod Written
