-- The groups of a local thread program's code over its tables: each gives the same from any data of the code that agree on what is fixed.
use Rattle.std.specs.Prelude.{◌≡◌, ℕ, true, false, List, []}
use Rattle.std.specs.List.{AllByRecursion}
use Rattle.ds2_value.specs.Progress.{Progress, Completed}
use Rattle.ds2_value.specs.Row.{Row}
use Rattle.ds2_table.specs.Table.{Contents, IsTable}
use Rattle.ds2_schedule.specs.Groups.{IsGroupIndependent, IsAmongGroups}
use Rattle.ds2_schedule.specs.Schedule.{AgreeAsStates}
use Rattle.ds2_meaning.specs.IsTyped.{IsTypedUnit, ReadsNoStage}
use Rattle.ds2_meaning.specs.ProgramTree.{UnitTree, OverTables}
use Rattle.ds2_meaning.specs.Reading.{TableRows}
use Rattle.ds2_code.specs.declared.parts.ProgramParts.{ProgramParts}
use Rattle.ds2_code.specs.CodeUnit.{code_init}
use Rattle.ds2_code.specs.Desk.{ProgramData, SlotSettings}
use Rattle.ds2_program_code.specs.ProgramCode.{program_code}
use Rattle.ds2_code_answer.specs.CodeAnswer.{code_opening}
use Rattle.ds2_code_answer.specs.CodeLoads.{load_settings, code_reading, retains_columns, code_keyed_loads}
use Rattle.ds2_code_answer.specs.CodeTables.{AreTablesOfCode}
use Rattle.ds2_code_answer.specs.StageSchedules.{units_of_code, group_sets}
use Rattle.ds2_code_answer.specs.StageTold.{told_units}
use Rattle.ds2_same_meaning.specs.SameAnswer.{HasNamedInstances, HaveRowsMentioned, staged_code}
use Rattle.ds2_locality.specs.declared.locality.Verdict.TheVariants.{Local}
use Rattle.ds2_locality.specs.Soundness.{ObjectsTold}
use Rattle.ds2_locality.specs.Verdict.{JudgedThread, verdict_of}
use Rattle.ds2_same_meaning.specs.CodeStates.{is_data_of_code, fixed_data}

-- what each load of each group of a program's code over tables sets, at a grain
abbrev pub code_groups : ℕ → ProgramParts → List Contents → List (List SlotSettings)
code_groups grain code contents =
    group_sets (load_settings code.slots (code_reading code) (retains_columns code.reading) contents) grain (code_keyed_loads code contents)

-- the groups of a program's code over tables are independent at a grain: from data of the code that agree on the fixed locations each gives the
-- same rows, lines and ending and executes equally many instructions, and so does `term`; and data of the code stand behind each `init` that
-- ends normally, whatever values its parameters have
pub record HasIndependentGroups (p : UnitTree) (contents : List Contents) (grain : ℕ) : Type 0 where
  pub free : IsGroupIndependent (told_units (units_of_code (program_code p))) (IsAmongGroups (code_groups grain (program_code p) contents)) (λ n. false) (AgreeAsStates (is_data_of_code p) (fixed_data p))
  pub begun : (budget : ℕ) (given : Row) (first : ProgramData) (unit : Progress) (executed : ℕ)
      → code_init (program_code p) budget (code_opening (program_code p) [] contents given) ≡ Completed first unit executed → is_data_of_code p first ≡ true

-- so are those over any tables of the code
abbrev pub IsIndependentCode : UnitTree → ℕ → Type 0
IsIndependentCode p grain =
    (tables : TableRows) (contents : List Contents) → HaveRowsMentioned (OverTables p) tables contents → AllByRecursion IsTable contents → AreTablesOfCode (staged_code (OverTables p)) contents
    → HasIndependentGroups p contents grain

-- the code of each typed thread program over tables is independent at the grain at which it is local, where its instances of thread programs
-- have names
abbrev pub LocalCodeHasIndependentGroups : Type 0
LocalCodeHasIndependentGroups =
    (t : JudgedThread) → IsTypedUnit t.program → ReadsNoStage t.program.reading → HasNamedInstances (OverTables t.program) → ObjectsTold t → (grain : ℕ) → verdict_of t ≡ Local grain
    → IsIndependentCode t.program grain
