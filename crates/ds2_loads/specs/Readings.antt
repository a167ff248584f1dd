-- Which readings are over tables.
use Rattle.ds2_code.specs.declared.parts.ReadingPart.{ReadingPart}
use Rattle.ds2_code.specs.declared.parts.ReadingPart.TheVariants as reading

-- a reading of tables or of nothing, not of the rows of a thread program
abbrev pub ReadsNoThread : ReadingPart → Type 0
ReadsNoThread reading.Nothing = Unit {0}
ReadsNoThread reading.Once = Unit {0}
ReadsNoThread (reading.Set tables bys) = Unit {0}
ReadsNoThread (reading.Merge tables bys retains) = Unit {0}
ReadsNoThread (reading.Stage threads slots) = ⊥
