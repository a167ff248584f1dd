-- The way of a call of a unit tells how many instructions it executes.
use Rattle.std.specs.Prelude.{◌≡◌, ℕ}
use Rattle.ds2_value.specs.Row.{Row}
use Rattle.ds2_table.specs.Loads.{Load}
use Rattle.ds2_meaning.specs.IsTyped.{IsTypedUnit}
use Rattle.ds2_meaning.specs.Location.{Storage}
use Rattle.ds2_meaning.specs.ProgramMeaning.{program_units}
use Rattle.ds2_meaning.specs.ProgramTree.{UnitTree}
use Rattle.ds2_meaning.specs.Reading.{InputTables, Settings}
use Rattle.ds2_code.specs.declared.parts.ProgramParts.{ProgramParts}
use Rattle.ds2_code.specs.CodeLaws.{unit_executed}
use Rattle.ds2_code.specs.CodeUnit.{code_init, code_run, code_term}
use Rattle.ds2_code.specs.Desk.{ProgramData}
use Rattle.ds2_gen.specs.GenLaws.{way_meant}
use Rattle.ds2_program_code.specs.LoadSettings.{slot_settings, table_load, stage_load}
use Rattle.ds2_program_code.specs.ProgramCode.{program_code}
use Rattle.ds2_program_code.specs.ProgramRuns.{HoldsProgram}

-- two calls of `run`, each from data that hold what the meaning keeps there, execute equally many instructions where the ways that their
-- loads take in the meaning are equal
abbrev pub RunsCountByWay : UnitTree → ProgramParts → Settings → Settings → Type 0
RunsCountByWay p code load next =
    (budget other : ℕ) (kept changed : Storage) (state second : ProgramData) → HoldsProgram p kept state → HoldsProgram p changed second
    → way_meant ((program_units p budget).run load kept) ≡ way_meant ((program_units p other).run next changed)
    → unit_executed (code_run code budget (slot_settings p load) state) ≡ unit_executed (code_run code other (slot_settings p next) second)

-- two calls of one unit of a program's code do so, whatever their budgets, data and loads
pub record CountsByWay (p : UnitTree) (code : ProgramParts) : Type 0 where
  pub in_init : (budget other : ℕ) (kept changed : Storage) (state second : ProgramData) → HoldsProgram p kept state → HoldsProgram p changed second
      → way_meant ((program_units p budget).init kept) ≡ way_meant ((program_units p other).init changed)
      → unit_executed (code_init code budget state) ≡ unit_executed (code_init code other second)
  pub over_tables : (tables others : InputTables) (load next : Load) → RunsCountByWay p code (table_load p tables load) (table_load p others next)
  pub of_rows : (row other : Row) → RunsCountByWay p code (stage_load p row) (stage_load p other)
  pub in_term : (budget other : ℕ) (kept changed : Storage) (state second : ProgramData) → HoldsProgram p kept state → HoldsProgram p changed second
      → way_meant ((program_units p budget).term kept) ≡ way_meant ((program_units p other).term changed)
      → unit_executed (code_term code budget state) ≡ unit_executed (code_term code other second)

-- so do those of the code of each typed program
abbrev pub TypedUnitsCountByWay : Type 0
TypedUnitsCountByWay = (p : UnitTree) → IsTypedUnit p → CountsByWay p (program_code p)
