-- The loads of a program's code over its tables, and what each of them sets.
use Rattle.std.specs.Prelude.{ℕ, ◌+◌, pos, Bool, false, not, ◌||◌, if◌then◌else◌, List, [], ◌∷◌, ◌++◌, length, map, flat_map, slice_get, Option, Some, None}
use Rattle.std.specs.Option.{option_map_or}
use Rattle.ds2_value.specs.Row.{Row}
use Rattle.ds2_value.specs.declared.value.Value.{Value}
use Rattle.ds2_value.specs.declared.value.Value.TheVariants.{Null, Int}
use Rattle.ds2_table.specs.Loads.{Load, KeyedLoad, keyed_load, set_loads, merge_loads, groups}
use Rattle.ds2_table.specs.Table.{Contents}
use Rattle.ds2_reading.specs.declared.reading.ByKey.{ByKey}
use Rattle.ds2_reading.specs.declared.reading.ReadTable.{ReadTable}
use Rattle.ds2_reading.specs.declared.reading.Reading.{Reading}
use Rattle.ds2_reading.specs.ReadingKeys.{directions_of, keys_of_reading}
use Rattle.ds2_code.specs.declared.parts.ByPart.{ByPart}
use Rattle.ds2_code.specs.declared.parts.ProgramParts.{ProgramParts}
use Rattle.ds2_code.specs.declared.parts.ReadPart.{ReadPart}
use Rattle.ds2_code.specs.declared.parts.ReadingPart.{ReadingPart}
use Rattle.ds2_code.specs.declared.parts.ReadingPart.TheVariants as reading
use Rattle.ds2_code.specs.declared.parts.Slot.{Slot}
use Rattle.ds2_code.specs.CodeUnit.{row_slot_settings}
use Rattle.ds2_code.specs.Desk.{SlotSettings}
use Rattle.ds2_code_answer.specs.CodeTables.{first_read_table}

-- ---- the reading statement

-- a table of a reading statement, which has this number among the program's tables
abbrev pub read_numbered : ℕ → ReadPart → ReadTable
read_numbered number read = record { table = number; slots = read.slots; in_flag = read.present }

-- the tables of a reading statement, numbered from this number on
abbrev pub reads_numbered : ℕ → List ReadPart → List ReadTable
reads_numbered number [] = []
reads_numbered number (read ∷ reads) = read_numbered number read ∷ reads_numbered (number + 1) reads

-- a BY variable of a reading statement
abbrev pub by_key_of_part : ByPart → ByKey
by_key_of_part by = record { slot = by.slot; is_descending = by.is_descending; first = by.first; last = by.last }

-- a reading statement over tables that are numbered from this number on
abbrev pub reading_over : ℕ → List ReadPart → List ByPart → Reading
reading_over number reads bys = record { tables = reads_numbered number reads; bys = map by_key_of_part bys }

-- the reading statement of a program over its tables; one that reads no tables has none
abbrev pub reading_numbered : ℕ → ReadingPart → Reading
reading_numbered number (reading.Set reads bys) = reading_over number reads bys
reading_numbered number (reading.Merge reads bys retains) = reading_over number reads bys
reading_numbered number (reading.Stage threads into) = reading_over number [] []
reading_numbered number reading.Once = reading_over number [] []
reading_numbered number reading.Nothing = reading_over number [] []

-- the tables of a reading statement stand behind those of the program's hash objects
abbrev pub code_reading : ProgramParts → Reading
code_reading code = reading_numbered (first_read_table code) code.reading

-- `merge` with `retain` leaves columns without a row as they are, but for the first load of a key
abbrev pub retains_columns : ReadingPart → Bool
retains_columns (reading.Merge reads bys retains) = retains
retains_columns _ = false

-- ---- what a load sets

-- a flag as a value of a slot
abbrev pub slot_flag : Bool → Value
slot_flag flag = if flag then Int (pos 1) else Int (pos 0)

-- the slots of columns set to null
abbrev pub column_nulls : List ℕ → SlotSettings
column_nulls slots = map (λ (n : ℕ). (n, Null)) slots

-- the slots of the columns of each table set to null
abbrev pub table_nulls : List ReadTable → SlotSettings
table_nulls reads = flat_map (λ (read : ReadTable). column_nulls read.slots) reads

-- the row of this number in the table of this number, where there are both
abbrev pub row_of_table : List Contents → ℕ → Option ℕ → Option Row
row_of_table tables number None = None
row_of_table tables number (Some row) = option_map_or (λ (t : Contents). slice_get t.rows row) (slice_get tables number) None

-- the columns of a row of one table, where a load has one
abbrev pub settings_of_read : List Slot → List ℕ → Option Row → SlotSettings
settings_of_read slots columns None = []
settings_of_read slots columns (Some row) = row_slot_settings slots columns row

-- the columns of the rows that a load has, table after table
abbrev pub read_settings : List Slot → List Contents → List ReadTable → List (Option ℕ) → SlotSettings
read_settings slots tables [] rows = []
read_settings slots tables (read ∷ reads) [] = []
read_settings slots tables (read ∷ reads) (row ∷ rows) =
    settings_of_read slots read.slots (row_of_table tables read.table row) ++ read_settings slots tables reads rows

-- the `in=` flag of a table, where it has one
abbrev pub in_flag_setting : Option ℕ → Bool → SlotSettings
in_flag_setting None is_there = []
in_flag_setting (Some n) is_there = (n, slot_flag is_there) ∷ []

-- the `in=` flags of the tables that have one
abbrev pub in_flag_settings : List ReadTable → List Bool → SlotSettings
in_flag_settings [] present = []
in_flag_settings (read ∷ reads) [] = []
in_flag_settings (read ∷ reads) (is_there ∷ present) = in_flag_setting read.in_flag is_there ++ in_flag_settings reads present

-- a flag of each BY variable
abbrev pub by_flag_settings : (ByKey → ℕ) → List ByKey → List Bool → SlotSettings
by_flag_settings slot [] flags = []
by_flag_settings slot (by ∷ bys) [] = []
by_flag_settings slot (by ∷ bys) (flag ∷ flags) = (slot by, slot_flag flag) ∷ by_flag_settings slot bys flags

-- the slot of the flag `first` of a BY variable
abbrev pub first_flag_of : ByKey → ℕ
first_flag_of by = by.first

-- the slot of its flag `last`
abbrev pub last_flag_of : ByKey → ℕ
last_flag_of by = by.last

-- what a load sets: columns to null, where `merge` with `retain` does so at the first load of a key alone; then the columns of its rows,
-- table after table; then the flags: `in=`, `first`, `last`
abbrev pub load_settings : List Slot → Reading → (retains : Bool) → List Contents → Load → SlotSettings
load_settings slots statement retains tables load =
    (if not retains || load.is_fresh then table_nulls statement.tables else [])
    ++ read_settings slots tables statement.tables load.rows
    ++ in_flag_settings statement.tables load.present
    ++ by_flag_settings first_flag_of statement.bys load.first
    ++ by_flag_settings last_flag_of statement.bys load.last

-- ---- loads

-- the loads of a reading over tables that are numbered from this number on: without a statement there is one, and without `run` none;
-- those of a thread program are its rows
abbrev pub keyed_loads_over : ℕ → ReadingPart → List Contents → List KeyedLoad
keyed_loads_over number (reading.Set reads bys) tables =
    let statement = reading_over number reads bys in set_loads (directions_of statement.bys) (keys_of_reading tables statement)
keyed_loads_over number (reading.Merge reads bys retains) tables =
    let statement = reading_over number reads bys in merge_loads (directions_of statement.bys) (keys_of_reading tables statement)
keyed_loads_over number (reading.Stage threads into) tables = []
keyed_loads_over number reading.Once tables = keyed_load [] [] [] ∷ []
keyed_loads_over number reading.Nothing tables = []

-- the loads of a program over its tables
abbrev pub code_keyed_loads : ProgramParts → List Contents → List KeyedLoad
code_keyed_loads code tables = keyed_loads_over (first_read_table code) code.reading tables

-- the loads of a program over its tables, each as what it sets
abbrev pub code_loads : ProgramParts → List Contents → List SlotSettings
code_loads code tables =
    map (λ (l : KeyedLoad). load_settings code.slots (code_reading code) (retains_columns code.reading) tables l.load) (code_keyed_loads code tables)

-- how many groups they make at a grain
abbrev pub code_group_count : ℕ → ProgramParts → List Contents → ℕ
code_group_count grain code tables = length (groups grain (code_keyed_loads code tables))

-- the slots of the columns of the thread program that a reading reads from
abbrev pub slots_of_stage : ReadingPart → List ℕ
slots_of_stage (reading.Stage threads into) = into
slots_of_stage _ = []
