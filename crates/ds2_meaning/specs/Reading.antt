-- Reading statements: their loads, and what a load sets.
use Rattle.std.specs.Prelude.{ℕ, min, nat_eq, nat_le, Bool, false, bytes_eq, not, ◌&&◌, ◌||◌, if◌then◌else◌, List, [], ◌∷◌, ◌++◌, length, map, slice_get, Option, Some, None, pos}
use Rattle.std.specs.List.{list_any, fold}
use Rattle.ds2_value.specs.Operations.{or_null_at_fault}
use Rattle.ds2_value.specs.Row.{Row, Columns}
use Rattle.ds2_value.specs.Schema.{has_column}
use Rattle.ds2_value.specs.Types.{assign_of}
use Rattle.ds2_value.specs.declared.schema.Column.{Column}
use Rattle.ds2_value.specs.declared.value.Value.{Value}
use Rattle.ds2_value.specs.declared.value.Value.TheVariants.{Null, Int}
use Rattle.ds2_table.specs.Loads.{Load, KeyedLoad, keyed_load, set_loads, merge_loads, groups}
use Rattle.ds2_meaning.specs.declared.globals.Variable.{Variable}
use Rattle.ds2_meaning.specs.declared.location.Global.{Global}
use Rattle.ds2_meaning.specs.declared.location.Global.TheVariants.{Named, First, Last, Present}
use Rattle.ds2_meaning.specs.declared.readings.ByVariable.{ByVariable}
use Rattle.ds2_meaning.specs.declared.readings.Input.{Input}
use Rattle.ds2_meaning.specs.declared.readings.Reading.{Reading}
use Rattle.ds2_meaning.specs.declared.readings.Reading.TheVariants.{Nothing, Once, Set, Merge, From}
use Rattle.ds2_meaning.specs.declared.readings.MentionedTable.{MentionedTable}
use Rattle.ds2_meaning.specs.Location.{Storage, Holds, with_content}

-- the rows of each table, by what a mention of it means
abbrev pub TableRows : Type 0
TableRows = MentionedTable → List Row

-- the rows of the tables of a statement, in its order
abbrev pub InputTables : Type 0
InputTables = List (List Row)

-- what a load sets, in order; the later one stays, and it says nothing of other variables
abbrev pub Settings : Type 0
Settings = List (Global × Value)

-- ---- loads

-- the tables of a reading statement
abbrev pub inputs_of : Reading → List Input
inputs_of (Set inputs bys) = inputs
inputs_of (Merge inputs bys retains) = inputs
inputs_of _ = []

-- the BY variables of a reading statement
abbrev pub bys_of : Reading → List ByVariable
bys_of (Set inputs bys) = bys
bys_of (Merge inputs bys retains) = bys
bys_of _ = []

-- the rows of these inputs, in their order
abbrev pub input_tables : TableRows → List Input → InputTables
input_tables tables inputs = map (λ (input : Input). tables input.table) inputs

-- the value of a row under the name of a column, or null
abbrev pub value_under : List ℕ → Columns → Row → Value
value_under name [] row = Null
value_under name (c ∷ cs) [] = Null
value_under name (c ∷ cs) (v ∷ vs) = if bytes_eq c.name name then v else value_under name cs vs

-- the values of the BY variables in a row
abbrev pub key_in : List ByVariable → Columns → Row → List Value
key_in bys columns row = map (λ (by : ByVariable). value_under by.name columns row) bys

-- the values of the BY variables in each row of each input
abbrev pub keys_in : List ByVariable → List Input → InputTables → List (List (List Value))
keys_in bys [] tables = []
keys_in bys (input ∷ inputs) [] = []
keys_in bys (input ∷ inputs) (rows ∷ tables) = map (key_in bys input.columns) rows ∷ keys_in bys inputs tables

-- for each BY variable whether it is descending
abbrev pub descending_of : List ByVariable → List Bool
descending_of bys = map (λ (by : ByVariable). by.is_descending) bys

-- the loads of a reading statement over its tables; without one there is one load, and without `run` none. The loads of
-- `set from` are the rows of its thread program
abbrev pub keyed_loads : Reading → InputTables → List KeyedLoad
keyed_loads Nothing tables = []
keyed_loads Once tables = keyed_load [] [] [] ∷ []
keyed_loads (Set inputs bys) tables = set_loads (descending_of bys) (keys_in bys inputs tables)
keyed_loads (Merge inputs bys retains) tables = merge_loads (descending_of bys) (keys_in bys inputs tables)
keyed_loads (From instance workers columns) tables = []

-- a grain fits a reading statement: 0 where it has no BY variable, else 1 to the number of its BY variables
abbrev pub fits_reading : ℕ → Reading → Bool
fits_reading grain reading = nat_le grain (length (bys_of reading)) && nat_eq (min grain 1) (min (length (bys_of reading)) 1)

-- the grain of a reading statement for which none is asked: 0 without a BY variable, else 1
abbrev pub first_grain : Reading → ℕ
first_grain reading = min (length (bys_of reading)) 1

-- how many groups the loads of a reading statement over its tables make at a grain that fits it
abbrev pub number_of_groups : ℕ → Reading → TableRows → ℕ
number_of_groups grain reading tables = length (groups grain (keyed_loads reading (input_tables tables (inputs_of reading))))

-- ---- what a load sets

-- a flag as a value
abbrev pub flag_value : Bool → Value
flag_value flag = if flag then Int (pos 1) else Int (pos 0)

-- a value in the type of the variable of this name
abbrev pub in_type_of : List Variable → List ℕ → Value → Value
in_type_of [] name v = v
in_type_of (x ∷ xs) name v = if bytes_eq x.name name then or_null_at_fault (assign_of v x.ty) else in_type_of xs name v

-- each column is set to null
abbrev pub nulls : Columns → Settings
nulls columns = map (λ (c : Column). (Named c.name, Null)) columns

-- each column of each input is set to null
abbrev pub all_nulls : List Input → Settings
all_nulls [] = []
all_nulls (input ∷ inputs) = nulls input.columns ++ all_nulls inputs

-- each column is set to the row's value in the variable's type
abbrev pub row_settings : List Variable → Columns → Row → Settings
row_settings variables [] row = []
row_settings variables (c ∷ cs) [] = []
row_settings variables (c ∷ cs) (v ∷ vs) = (Named c.name, in_type_of variables c.name v) ∷ row_settings variables cs vs

-- the columns of one table, where a load has a row of it
abbrev pub settings_of_row : List Variable → Columns → Option Row → Settings
settings_of_row variables columns None = []
settings_of_row variables columns (Some row) = row_settings variables columns row

-- the row of this number, where there is a number
abbrev pub row_numbered : List Row → Option ℕ → Option Row
row_numbered rows None = None
row_numbered rows (Some number) = slice_get rows number

-- the columns of all tables of which a load has a row, in the order of the statement
abbrev pub tables_settings : List Variable → List Input → InputTables → List (Option ℕ) → Settings
tables_settings variables [] tables numbers = []
tables_settings variables (input ∷ inputs) [] numbers = []
tables_settings variables (input ∷ inputs) (rows ∷ tables) [] = []
tables_settings variables (input ∷ inputs) (rows ∷ tables) (number ∷ numbers) =
    settings_of_row variables input.columns (row_numbered rows number) ++ tables_settings variables inputs tables numbers

-- the flag that `in=` names, where it names one
abbrev pub present_setting : Option (List ℕ) → Bool → Settings
present_setting None is_there = []
present_setting (Some name) is_there = (Present name, flag_value is_there) ∷ []

-- the `in=` flags of the tables that have one
abbrev pub present_settings : List Input → List Bool → Settings
present_settings [] present = []
present_settings (input ∷ inputs) [] = []
present_settings (input ∷ inputs) (is_there ∷ more) = present_setting input.present is_there ++ present_settings inputs more

-- a flag of each BY variable
abbrev pub by_settings : (List ℕ → Global) → List ByVariable → List Bool → Settings
by_settings flag [] flags = []
by_settings flag (by ∷ bys) [] = []
by_settings flag (by ∷ bys) (f ∷ flags) = (flag by.name, flag_value f) ∷ by_settings flag bys flags

-- what a load of a statement sets: columns without a row to null, where `merge` with `retain` does so at the first load of a key
-- alone; then the columns of its rows, of several tables the last one; then the flags
abbrev pub settings_in : List Variable → List Input → List ByVariable → (retains : Bool) → InputTables → Load → Settings
settings_in variables inputs bys retains tables load =
    (if not retains || load.is_fresh then all_nulls inputs else [])
    ++ tables_settings variables inputs tables load.rows
    ++ present_settings inputs load.present
    ++ by_settings First bys load.first
    ++ by_settings Last bys load.last

-- what a load of a program's reading statement sets
abbrev pub settings_of : List Variable → Reading → InputTables → Load → Settings
settings_of variables (Set inputs bys) tables load = settings_in variables inputs bys false tables load
settings_of variables (Merge inputs bys retains) tables load = settings_in variables inputs bys retains tables load
settings_of variables _ tables load = []

-- the loads of a program over its tables, each as what it sets
abbrev pub loads_over : List Variable → Reading → TableRows → List Settings
loads_over variables reading tables =
    let rows = input_tables tables (inputs_of reading) in map (λ (l : KeyedLoad). settings_of variables reading rows l.load) (keyed_loads reading rows)

-- the variables of a program behind a load
abbrev pub with_settings : Settings → Storage → Storage
with_settings settings before = fold (λ (kept : Storage) (set : Global × Value). with_content (record { home = None; global = set.0 }) (Holds set.1) kept) before settings

-- ---- columns

-- the instance of a thread program that `set from` names, and none for other statements
abbrev pub stage_instance : Reading → List ℕ
stage_instance (From instance workers columns) = instance
stage_instance _ = []

-- the columns of the rows that `set from` reads, and none for other statements
abbrev pub stage_columns : Reading → Columns
stage_columns (From instance workers columns) = columns
stage_columns _ = []

-- a name is that of a column of the reading statement
abbrev pub is_column : Reading → List ℕ → Bool
is_column (From instance workers columns) name = has_column name columns
is_column reading name = list_any (λ (input : Input). has_column name input.columns) (inputs_of reading)
