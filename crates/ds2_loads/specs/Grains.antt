-- The grains at which the loads of a program are put into groups.
use Rattle.std.specs.Prelude.{ℕ, ◌≤◌, length}
use Rattle.ds2_code.specs.declared.parts.ReadingPart.{ReadingPart}
use Rattle.ds2_code.specs.declared.parts.ReadingPart.TheVariants as reading

-- a grain for so many BY variables: at most so many, and 0 exactly where there is none
pub record IsGrainOf (bys grain : ℕ) : Type 0 where
  pub within : grain ≤ bys
  pub above : 1 ≤ bys → 1 ≤ grain

-- a grain that a program's reading can have
abbrev pub IsGrainOfReading : ReadingPart → ℕ → Type 0
IsGrainOfReading (reading.Set tables bys) grain = IsGrainOf (length bys) grain
IsGrainOfReading (reading.Merge tables bys retains) grain = IsGrainOf (length bys) grain
IsGrainOfReading (reading.Stage threads slots) grain = IsGrainOf 0 grain
IsGrainOfReading reading.Once grain = IsGrainOf 0 grain
IsGrainOfReading reading.Nothing grain = IsGrainOf 0 grain
