pub mod Fitting
pub mod KeptColumns
pub mod NullMarks
pub mod ShortNumbers
pub mod TextRuns
