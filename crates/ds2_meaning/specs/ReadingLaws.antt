-- Laws of reading statements: their loads stand in BY order, and their groups are their loads.
use Rattle.std.specs.Prelude.{◌≡◌, ℕ}
use Rattle.ds2_table.specs.LoadLaws.{one_after_another, AreInByOrder}
use Rattle.ds2_table.specs.Loads.{groups}
use Rattle.ds2_meaning.specs.declared.readings.Reading.{Reading}
use Rattle.ds2_meaning.specs.Reading.{InputTables, bys_of, descending_of, keyed_loads}

-- the loads of every reading statement over its tables stand in BY order
abbrev pub ReadingsStandInByOrder : Type 0
ReadingsStandInByOrder = (reading : Reading) (tables : InputTables) → AreInByOrder (descending_of (bys_of reading)) (keyed_loads reading tables)

-- the groups of the loads of every reading statement at every grain, one after the other, are these loads in their order
abbrev pub GroupsDivideReadings : Type 0
GroupsDivideReadings = (reading : Reading) (tables : InputTables) (p : ℕ) → one_after_another (groups p (keyed_loads reading tables)) ≡ keyed_loads reading tables
