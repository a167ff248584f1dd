-- What is promised of the code that is written for a program.
use Rattle.std.specs.Prelude.{ℕ, List, [], ◌∷◌, length, Option, Some, None}
use Rattle.ds2_value.specs.Row.{Row}
use Rattle.ds2_value.specs.declared.value.Value.{Value}
use Rattle.ds2_table.specs.Loads.{Load}
use Rattle.ds2_meaning.specs.IsTyped.{IsTypedUnit}
use Rattle.ds2_meaning.specs.Location.{Storage}
use Rattle.ds2_meaning.specs.ProgramMeaning.{opening_of, program_units}
use Rattle.ds2_meaning.specs.ProgramTree.{UnitTree, ProgramTree, OverTables, OverStage}
use Rattle.ds2_meaning.specs.Reading.{InputTables, Settings, TableRows}
use Rattle.ds2_code.specs.declared.parts.ProgramParts.{ProgramParts}
use Rattle.ds2_code.specs.declared.parts.StagedParts.{StagedParts}
use Rattle.ds2_code.specs.CodeUnit.{code_init, code_run, code_term, opening_data}
use Rattle.ds2_code.specs.Desk.{ProgramData}
use Rattle.ds2_program_code.specs.PlacedProgram.{parameter_locations}
use Rattle.ds2_program_code.specs.LoadSettings.{slot_settings, table_load, stage_load}
use Rattle.ds2_program_code.specs.Opening.{opening_tables}
use Rattle.ds2_program_code.specs.ProgramCode.{program_code}
use Rattle.ds2_program_code.specs.ProgramRuns.{HoldsProgram, EndsLikeUnit}
use Rattle.ds2_program_code.specs.ValidProgram.{FitsObjectLimits}
use Rattle.ds2_program_code.specs.CountsByWay.{CountsByWay}

-- the code of a program and of the thread programs that it stands on
abbrev pub codes_of : ProgramTree → List ProgramParts
codes_of (OverTables p) = program_code p ∷ []
codes_of (OverStage p stage) = program_code p ∷ codes_of stage

-- the code of a program, with that of the thread programs that it stands on
abbrev pub code_with_stages : ProgramTree → StagedParts
code_with_stages (OverTables p) = record { program = program_code p; stages = [] }
code_with_stages (OverStage p stage) = record { program = program_code p; stages = codes_of stage }

-- the codes of the thread programs that a program stands on, where it stands on any
abbrev pub codes_below : Option ProgramTree → List ProgramParts
codes_below None = []
codes_below (Some stage) = codes_of stage

-- `run` of this code ends as that of the program means, with a load
abbrev pub CodeRunsAs : UnitTree → ProgramParts → Settings → Type 0
CodeRunsAs p code load =
    (budget : ℕ) (kept : Storage) (state : ProgramData) → HoldsProgram p kept state
    → EndsLikeUnit p (code_run code budget (slot_settings p load) state) ((program_units p budget).run load kept)

-- each unit of this code ends as the program's unit means, with every budget and from any data that holds what the meaning keeps, and
-- `run` with each load; before the first unit the data hold what the program opens with; and the way of a call tells how many
-- instructions it executes
pub record DoesAs (p : UnitTree) (code : ProgramParts) : Type 0 where
  pub opens : (tables : TableRows) (values : List Value) → HoldsProgram p (opening_of p tables values) (opening_data code values (opening_tables p tables) (length (parameter_locations p)))
  pub in_init : (budget : ℕ) (kept : Storage) (state : ProgramData) → HoldsProgram p kept state → EndsLikeUnit p (code_init code budget state) ((program_units p budget).init kept)
  pub over_tables : (tables : InputTables) (load : Load) → CodeRunsAs p code (table_load p tables load)
  pub of_rows : (row : Row) → CodeRunsAs p code (stage_load p row)
  pub in_term : (budget : ℕ) (kept : Storage) (state : ProgramData) → HoldsProgram p kept state → EndsLikeUnit p (code_term code budget state) ((program_units p budget).term kept)
  pub counts : CountsByWay p code

-- codes do so one after the other, where their programs are typed
abbrev pub DoAllAs : ProgramTree → List ProgramParts → Type 0
DoAllAs t [] = ⊥
DoAllAs (OverTables p) (code ∷ codes) = IsTypedUnit p → DoesAs p code
DoAllAs (OverStage p stage) (code ∷ codes) = (IsTypedUnit p → DoesAs p code) × DoAllAs stage codes

-- a program is within the limits of code, and so is the thread program that it reads from, which reads from none
abbrev pub FitsStagedLimits : ProgramTree → Type 0
FitsStagedLimits (OverTables p) = FitsObjectLimits p
FitsStagedLimits (OverStage p (OverTables stage)) = FitsObjectLimits p × FitsObjectLimits stage
FitsStagedLimits (OverStage p (OverStage stage further)) = ⊥
