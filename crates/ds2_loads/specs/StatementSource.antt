-- What the loads of a reading statement set.
use Rattle.std.specs.Prelude.{List, length, map, drop}
use Rattle.ds2_table.specs.Loads.{KeyedLoad, Load}
use Rattle.ds2_reading.specs.CursorState.{Cursor}
use Rattle.ds2_reading.specs.LoadMeaning.{load_meaning}
use Rattle.ds2_code.specs.Desk.{SlotSettings}
use Rattle.ds2_code_answer.specs.CodeLoads.{load_settings}
use Rattle.ds2_loads.specs.declared.table_load.TableLoad.{TableLoad}

-- what a load of the statement sets
abbrev pub settings_of_statement : TableLoad → Load → SlotSettings
settings_of_statement at load = load_settings at.slots.now at.reading.now at.retains at.tables.now load

-- what the load sets at which a source stands
abbrev pub current_settings : TableLoad → SlotSettings
current_settings at = settings_of_statement at (load_meaning (length at.reading.now.tables) (length at.reading.now.bys) at.load)

-- what each load sets that a cursor has left
abbrev pub settings_left : TableLoad → Cursor → List SlotSettings
settings_left at cursor = map (λ (l : KeyedLoad). settings_of_statement at l.load) (drop cursor.given cursor.loads)
