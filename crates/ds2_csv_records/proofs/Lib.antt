pub mod Cells
pub mod LawRecords
pub mod Reading
pub mod Writing
