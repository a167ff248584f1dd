pub mod Marks
pub mod Appending
pub mod Counting
pub mod Arms
pub mod BodyWords
