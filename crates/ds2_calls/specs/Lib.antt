-- What the calls of a unit may mean, by the names in them: methods and their in_out parameters, instances, and the units that stand
-- before it; and what tables tell of these.
pub mod MethodFlags
pub mod InstanceSorts
pub mod KnownUnits
pub mod SortCalls
pub mod UnitsCalls
-- What a rule on uses of names gives within one part of a method.
pub mod UseParts
