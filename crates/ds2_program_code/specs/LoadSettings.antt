-- What a load of a typed program sets in its code.
use Rattle.std.specs.Prelude.{map, None}
use Rattle.ds2_value.specs.Row.{Row}
use Rattle.ds2_value.specs.declared.value.Value.{Value}
use Rattle.ds2_table.specs.Loads.{Load}
use Rattle.ds2_meaning.specs.declared.location.Global.{Global}
use Rattle.ds2_meaning.specs.IsTyped.{IsTypedUnit}
use Rattle.ds2_meaning.specs.ProgramTree.{UnitTree, data_vector}
use Rattle.ds2_meaning.specs.Reading.{InputTables, Settings, settings_of, row_settings, stage_columns}
use Rattle.ds2_code.specs.Desk.{SlotSettings}
use Rattle.ds2_gen.specs.UnitTheorem.{AreSameSettings}
use Rattle.ds2_program_code.specs.PlacedProgram.{first_of_run, system_placement}
use Rattle.ds2_program_code.specs.CodeParts.{slot_of_global}

-- each value that a load sets, in the slot of its global
abbrev pub slot_settings : UnitTree → Settings → SlotSettings
slot_settings p load = map (λ (set : Global × Value). (slot_of_global p None set.0, set.1)) load

-- what a load sets over tables
abbrev pub table_load : UnitTree → InputTables → Load → Settings
table_load p tables load = settings_of (data_vector p) p.reading tables load

-- what one sets that is a row of the thread program that a program reads from
abbrev pub stage_load : UnitTree → Row → Settings
stage_load p row = row_settings (data_vector p) (stage_columns p.reading) row

-- every global that a load of a program sets has its slot: over any tables, and for any row of a thread program
pub record LoadsHaveSlots (p : UnitTree) : Type 0 where
  pub over_tables : (tables : InputTables) (load : Load) → AreSameSettings (system_placement p (first_of_run p) p.run) (table_load p tables load) (slot_settings p (table_load p tables load))
  pub of_rows : (row : Row) → AreSameSettings (system_placement p (first_of_run p) p.run) (stage_load p row) (slot_settings p (stage_load p row))

-- so it is in typed programs
abbrev pub TypedLoadsHaveSlots : Type 0
TypedLoadsHaveSlots = (p : UnitTree) → IsTypedUnit p → LoadsHaveSlots p
