pub mod Appended
pub mod Trees
