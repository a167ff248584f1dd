-- The loads of a program's code over its tables, and what the program's loads are.
use Rattle.std.specs.Prelude.{◌≡◌, IsTrue, List, []}
use Rattle.std.specs.List.{AllByRecursion}
use Rattle.ds2_value.specs.Row.{Row}
use Rattle.ds2_value.specs.declared.value.Value.{Value}
use Rattle.ds2_table.specs.Loads.{Load}
use Rattle.ds2_table.specs.Table.{Contents, IsTable, rows_fit}
use Rattle.ds2_meaning.specs.declared.readings.Input.{Input}
use Rattle.ds2_meaning.specs.IsTyped.{IsTypedUnit, ReadsNoStage}
use Rattle.ds2_meaning.specs.ProgramMeaning.{opening_of}
use Rattle.ds2_meaning.specs.ProgramTree.{UnitTree, OverTables}
use Rattle.ds2_meaning.specs.Reading.{TableRows, InputTables, inputs_of, input_tables, keyed_loads}
use Rattle.ds2_code.specs.Desk.{with_slot_settings}
use Rattle.ds2_program_code.specs.LoadSettings.{slot_settings, table_load}
use Rattle.ds2_program_code.specs.ProgramCode.{program_code}
use Rattle.ds2_program_code.specs.ProgramRuns.{HoldsProgram}
use Rattle.ds2_code_answer.specs.CodeAnswer.{code_opening}
use Rattle.ds2_code_answer.specs.CodeLoads.{load_settings, code_reading, retains_columns, code_keyed_loads}
use Rattle.ds2_code_answer.specs.CodeTables.{AreTablesOfCode}
use Rattle.ds2_same_meaning.specs.SameAnswer.{staged_code, HasNamedInstances, HaveRowsMentioned}

-- the rows of the tables of a program's reading statement
abbrev pub rows_read : UnitTree → TableRows → InputTables
rows_read p tables = input_tables tables (inputs_of p.reading)

-- over these tables the code of a program has the program's loads, with their keys; each sets the slots that the program's load sets;
-- where these are tables of the code, the rows of each table of the reading statement fit its columns; and before the first unit the data hold
-- what the program opens with, whatever values its parameters have
pub record LoadsAreAlike (p : UnitTree) (tables : TableRows) (contents : List Contents) : Type 0 where
  pub loads : code_keyed_loads (program_code p) contents ≡ keyed_loads p.reading (rows_read p tables)
  pub sets : (load : Load) (slots : Row)
      → with_slot_settings (load_settings (program_code p).slots (code_reading (program_code p)) (retains_columns (program_code p).reading) contents load) slots
      ≡ with_slot_settings (slot_settings p (table_load p (rows_read p tables) load)) slots
  pub rows : AllByRecursion IsTable contents → AreTablesOfCode (staged_code (OverTables p)) contents
      → AllByRecursion (λ (input : Input). IsTrue (rows_fit (tables input.table) input.columns)) (inputs_of p.reading)
  pub opens : (values : List Value) → HoldsProgram p (opening_of p tables values) (code_opening (program_code p) [] contents values)

-- so it is with the code of each typed program over tables whose instances of thread programs have names
abbrev pub TypedLoadsAreAlike : Type 0
TypedLoadsAreAlike =
    (p : UnitTree) → IsTypedUnit p → ReadsNoStage p.reading → HasNamedInstances (OverTables p) → (tables : TableRows) (contents : List Contents)
    → HaveRowsMentioned (OverTables p) tables contents → LoadsAreAlike p tables contents
