-- Rows of a thread program as loads: the machine sets the slots of their columns as the meaning sets the columns' variables.
use Rattle.std.specs.Prelude.{◌≡◌, IsTrue, ℕ, List, map, None}
use Rattle.ds2_value.specs.Row.{Row}
use Rattle.ds2_value.specs.Schema.{distinct_names}
use Rattle.ds2_value.specs.declared.schema.Column.{Column}
use Rattle.ds2_meaning.specs.declared.location.Global.TheVariants.{Named}
use Rattle.ds2_meaning.specs.IsTyped.{IsTypedUnit}
use Rattle.ds2_meaning.specs.ProgramTree.{UnitTree}
use Rattle.ds2_meaning.specs.Reading.{stage_columns}
use Rattle.ds2_code.specs.CodeUnit.{row_slot_settings}
use Rattle.ds2_code.specs.Desk.{with_slot_settings}
use Rattle.ds2_program_code.specs.CodeParts.{slot_of_global, code_slots}
use Rattle.ds2_program_code.specs.LoadSettings.{slot_settings, stage_load}

-- the slots of the columns of the thread program that a program reads from
abbrev pub stage_slots : UnitTree → List ℕ
stage_slots p = map (λ (c : Column). slot_of_global p None (Named c.name)) (stage_columns p.reading)

-- a row of columns with distinct names leaves the same slots, whether its columns are set in their order or from the last one on
abbrev pub StageRowsSetSlots : Type 0
StageRowsSetSlots =
    (p : UnitTree) → IsTypedUnit p → IsTrue (distinct_names (stage_columns p.reading)) → (row slots : Row)
    → with_slot_settings (row_slot_settings (code_slots p) (stage_slots p) row) slots ≡ with_slot_settings (slot_settings p (stage_load p row)) slots
