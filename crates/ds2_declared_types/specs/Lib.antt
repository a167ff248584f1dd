-- What the code holds of declared variables and of columns.
pub mod Numbers
pub mod InputColumns
pub mod Joins
pub mod UnitReading
-- What the code keeps of the types of units.
pub mod TypesKnown
