-- Units of a typed program's code, one after the other, do what the program's units mean.
use Rattle.std.specs.Prelude.{◌≡◌, ℕ, ◌<◌, ◌≤◌, length, slice_get, Some}
use Rattle.ds2_value.specs.Progress.{UnitOutcome, Completed, Interrupted}
use Rattle.ds2_value.specs.Row.{Row}
use Rattle.ds2_value.specs.declared.value.Value.{Value}
use Rattle.ds2_table.specs.Loads.{Load}
use Rattle.ds2_meaning.specs.IsTyped.{IsTypedUnit}
use Rattle.ds2_meaning.specs.Location.{Location, Storage}
use Rattle.ds2_meaning.specs.ProgramMeaning.{program_units}
use Rattle.ds2_meaning.specs.ProgramTree.{UnitTree}
use Rattle.ds2_meaning.specs.Reading.{InputTables, Settings}
use Rattle.ds2_code.specs.CodeUnit.{code_init, code_run, code_term}
use Rattle.ds2_code.specs.Desk.{ProgramData}
use Rattle.ds2_gen.specs.CodeCells.{CodeCell, CellHas}
use Rattle.ds2_gen.specs.UnitCode.{data_cells}
use Rattle.ds2_program_code.specs.PlacedProgram.{program_cell, layout_size}
use Rattle.ds2_program_code.specs.CodeParts.{code_slots}
use Rattle.ds2_program_code.specs.LoadSettings.{slot_settings, table_load, stage_load}
use Rattle.ds2_program_code.specs.ProgramCode.{program_code}

-- a program's data holds what the meaning keeps from one unit to the next, whichever unit comes next: the cell of each location has what is
-- kept there, and there is a slot for all that system methods keep
pub record HoldsProgram (p : UnitTree) (kept : Storage) (state : ProgramData) : Type 0 where
  pub globals : (at : Location) (c : CodeCell) → program_cell p at ≡ Some c → CellHas c (kept at) (data_cells state)
  pub own : (n : ℕ) → layout_size p ≤ n → n < length (code_slots p) → (v : Value) × (slice_get state.slots n ≡ Some v)

-- a unit of code has ended as the unit means: with its rows, lines, way, place and budget left, by the same fault where it is one, and after
-- a normal end with data that holds what the meaning keeps then
abbrev pub EndsLikeUnit : UnitTree → UnitOutcome ProgramData → UnitOutcome Storage → Type 0
EndsLikeUnit p (Completed state q executed) (Completed kept r none) = (q ≡ r) × HoldsProgram p kept state
EndsLikeUnit p (Interrupted fault q executed) (Interrupted other r none) = (fault ≡ other) × (q ≡ r)
EndsLikeUnit p _ _ = ⊥

-- `run` of a program's code does so with a load
abbrev pub RunsLikeUnit : UnitTree → Settings → Type 0
RunsLikeUnit p load =
    (budget : ℕ) (kept : Storage) (state : ProgramData) → HoldsProgram p kept state
    → EndsLikeUnit p (code_run (program_code p) budget (slot_settings p load) state) ((program_units p budget).run load kept)

-- each unit of a program's code does so, with every budget, from any data that holds what the meaning keeps, and `run` with each load: one
-- over tables, and a row of the thread program that the program reads from
pub record UnitsRunAsMeant (p : UnitTree) : Type 0 where
  pub in_init : (budget : ℕ) (kept : Storage) (state : ProgramData) → HoldsProgram p kept state
      → EndsLikeUnit p (code_init (program_code p) budget state) ((program_units p budget).init kept)
  pub over_tables : (tables : InputTables) (load : Load) → RunsLikeUnit p (table_load p tables load)
  pub of_rows : (row : Row) → RunsLikeUnit p (stage_load p row)
  pub in_term : (budget : ℕ) (kept : Storage) (state : ProgramData) → HoldsProgram p kept state
      → EndsLikeUnit p (code_term (program_code p) budget state) ((program_units p budget).term kept)

-- so do those of each typed program
abbrev pub TypedUnitsRunAsMeant : Type 0
TypedUnitsRunAsMeant = (p : UnitTree) → IsTypedUnit p → UnitsRunAsMeant p
