-- Which of several places is the earliest, which refusal follows from the earliest place of each rule, what tables by names
-- tell, what one part of a unit gives names to; units, instances and what is known before a unit, as the code holds them;
-- the names of a unit in lists.
pub mod Earliest
pub mod Lesser
pub mod NamedPlaces
pub mod Collected
pub mod NameTables
pub mod NameSets
pub mod CodeUnits
pub mod UnitsKnown
pub mod UnitNames
