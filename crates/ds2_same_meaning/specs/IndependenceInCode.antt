-- When the code of a thread program is group independent by what the code itself leaves as it is.
use Rattle.std.specs.Prelude.{◌≡◌, ℕ, true, Some}
use Rattle.ds2_schedule.specs.Groups.{IsGroupIndependent}
use Rattle.ds2_meaning.specs.IsTyped.{IsTypedUnit}
use Rattle.ds2_meaning.specs.Location.{Location}
use Rattle.ds2_meaning.specs.ProgramTree.{UnitTree}
use Rattle.ds2_code.specs.Desk.{ProgramData}
use Rattle.ds2_gen.specs.CodeCells.{CodeCell, SlotCell, HashCell, IteratorCell, ParameterCell}
use Rattle.ds2_program_code.specs.PlacedProgram.{program_cell}
use Rattle.ds2_program_code.specs.ProgramCode.{program_code}
use Rattle.ds2_locality.specs.declared.locality.Verdict.TheVariants.{Local}
use Rattle.ds2_locality.specs.Independence.{IsGroupOfReading, is_fixed}
use Rattle.ds2_locality.specs.KeptLocations.{is_flag_before}
use Rattle.ds2_locality.specs.Soundness.{ObjectsTold}
use Rattle.ds2_locality.specs.Verdict.{JudgedThread, verdict_of}
use Rattle.ds2_same_meaning.specs.CodeIndependence.{coded_stage, IsCodeIndependentAt}
use Rattle.ds2_same_meaning.specs.CodeStates.{is_data_of_code}
use Rattle.ds2_same_meaning.specs.FixedInCode.{DataLocation, SlotAt, HashAt, IteratorAt, ParameterAt, HoldSame, IsFixedInCode}

-- the cell of a location of the data
abbrev pub cell_of_data : DataLocation → CodeCell
cell_of_data (SlotAt n) = SlotCell n
cell_of_data (HashAt n) = HashCell n
cell_of_data (IteratorAt n) = IteratorCell n
cell_of_data (ParameterAt n) = ParameterCell n

-- what is fixed in the tree of a typed program is fixed in its code, where it has a cell there
abbrev pub FixedIsFixedInCode : Type 0
FixedIsFixedInCode =
    (p : UnitTree) → IsTypedUnit p → (at : Location) → is_fixed p at ≡ true → (there : DataLocation) → program_cell p at ≡ Some (cell_of_data there) → IsFixedInCode (program_code p) there

-- data of a program's code agree on all that is fixed in the code
abbrev pub AgreeInCode : UnitTree → ProgramData → ProgramData → Type 0
AgreeInCode p s t = (is_data_of_code p s ≡ true) × (is_data_of_code p t ≡ true) × ((there : DataLocation) → IsFixedInCode (program_code p) there → HoldSame there s t)

-- the code of a thread program is group independent at a grain by what is fixed in the code: for every budget, two groups at that grain that
-- are equal but for the flags of the BY variables before it give equal rows, lines, endings and numbers of executed instructions from any two
-- data that agree on all that is fixed in the code, and leave this as it was; and so does `term`
abbrev pub IsIndependentInCode : UnitTree → ℕ → Type 0
IsIndependentInCode p grain = IsGroupIndependent (coded_stage p) (IsGroupOfReading p.reading p grain) (is_flag_before grain p.reading) (AgreeInCode p)

-- where the code of a typed program is group independent by the locations that are fixed in its tree, it is so by what is fixed in the code
abbrev pub IndependenceHoldsInCode : Type 0
IndependenceHoldsInCode = (p : UnitTree) → IsTypedUnit p → (grain : ℕ) → IsCodeIndependentAt p grain → IsIndependentInCode p grain

-- the code of a typed thread program that is local at a grain is group independent there by what is fixed in the code
abbrev pub LocalCodeIsIndependentInCode : Type 0
LocalCodeIsIndependentInCode = (t : JudgedThread) → IsTypedUnit t.program → ObjectsTold t → (grain : ℕ) → verdict_of t ≡ Local grain → IsIndependentInCode t.program grain
