-- Places in the loads of a program: which loads are left, and in which groups all of them are.
use Rattle.std.specs.Prelude.{◌≡◌, ℕ, ◌≤◌, Bool, true, false, List, [], ◌∷◌, length, map, take, drop, Option, MatchOption, slice_get, Some, None}
use Rattle.ds2_table.specs.Loads.{InputRow, KeyedLoad, keyed_load, set_load, groups}
use Rattle.ds2_table.specs.Table.{Contents}
use Rattle.ds2_reading.specs.CursorState.{Cursor, group_count}
use Rattle.ds2_reading.specs.LoadMeaning.{load_meaning}
use Rattle.ds2_reading.specs.declared.load.Load.{Load as LoadInCode}
use Rattle.ds2_reading.specs.declared.reading.Reading.{Reading}
use Rattle.ds2_code.specs.Desk.{SlotSettings}
use Rattle.ds2_loads.specs.RowsBehind.{rows_behind}
use Rattle.ds2_loads.specs.StatementSource.{settings_of_statement, settings_left}
use Rattle.ds2_loads.specs.declared.load_cursor.LoadCursor.{LoadCursor}
use Rattle.ds2_loads.specs.declared.load_cursor.LoadCursor.TheVariants as cursor
use Rattle.ds2_loads.specs.declared.row_place.RowPlace.{RowPlace}
use Rattle.ds2_loads.specs.declared.table_load.TableLoad.{TableLoad}

-- what a load of a statement sets, by the numbers of its rows
abbrev pub settings_of_numbers : TableLoad → LoadInCode → SlotSettings
settings_of_numbers at load = settings_of_statement at (load_meaning (length at.reading.now.tables) (length at.reading.now.bys) load)

-- what a load with its key sets
abbrev pub settings_of_keyed : TableLoad → KeyedLoad → SlotSettings
settings_of_keyed at load = settings_of_statement at load.load

-- what the load of a row alone sets
abbrev pub settings_of_input_row : TableLoad → InputRow → SlotSettings
settings_of_input_row at row = settings_of_statement at (set_load (length at.reading.now.tables) row).load

-- what each load sets that is a row at a place of the tables or behind it
abbrev pub settings_of_rows : TableLoad → RowPlace → List SlotSettings
settings_of_rows at place =
    map (settings_of_input_row at) (rows_behind at.tables.now place.table place.row (drop place.table at.reading.now.tables))

-- what each load sets that is left
abbrev pub cursor_left : TableLoad → LoadCursor → List SlotSettings
cursor_left at (cursor.Rows place) = settings_of_rows at place
cursor_left at (cursor.SetWalk c) = settings_left at c
cursor_left at (cursor.MergeWalk c) = settings_left at c
cursor_left at (cursor.Set c) = settings_left at c
cursor_left at (cursor.Merge c) = settings_left at c
cursor_left at (cursor.Kept k) = map (settings_of_numbers at) (drop k.given k.loads)

-- a list in parts of these lengths
abbrev pub in_parts : {A : Type 0} → List ℕ → List A → List (List A)
in_parts [] xs = []
in_parts (n ∷ ns) xs = take n xs ∷ in_parts ns (drop n xs)

-- how many loads each group of a cursor has
abbrev pub group_lengths : Cursor → List ℕ
group_lengths c = map (λ (group : List KeyedLoad). length group) (groups c.grain c.loads)

-- what each load of each group of a cursor sets: the groups divide the loads in their order
abbrev pub settings_in_parts : TableLoad → Cursor → List (List SlotSettings)
settings_in_parts at c = in_parts (group_lengths c) (map (settings_of_keyed at) c.loads)

-- what each load of each group sets; each of the loads that are kept is a group, and rows in their order and walks have none
abbrev pub cursor_groups : TableLoad → LoadCursor → List (List SlotSettings)
cursor_groups at (cursor.Rows place) = []
cursor_groups at (cursor.SetWalk c) = []
cursor_groups at (cursor.MergeWalk c) = []
cursor_groups at (cursor.Set c) = settings_in_parts at c
cursor_groups at (cursor.Merge c) = settings_in_parts at c
cursor_groups at (cursor.Kept k) = map (λ (l : LoadInCode). settings_of_numbers at l ∷ []) k.loads

-- how many groups there are
abbrev pub group_number : LoadCursor → ℕ
group_number (cursor.Rows place) = 0
group_number (cursor.SetWalk c) = 0
group_number (cursor.MergeWalk c) = 0
group_number (cursor.Set c) = group_count c
group_number (cursor.Merge c) = group_count c
group_number (cursor.Kept k) = length k.loads

-- the number of tables of a cursor's statement; rows in their order and loads that are kept have no other number than is asked for
abbrev pub tables_over : ℕ → LoadCursor → ℕ
tables_over asked (cursor.Rows place) = asked
tables_over asked (cursor.SetWalk c) = c.tables
tables_over asked (cursor.MergeWalk c) = c.tables
tables_over asked (cursor.Set c) = c.tables
tables_over asked (cursor.Merge c) = c.tables
tables_over asked (cursor.Kept k) = asked

-- likewise the number of its BY variables; rows in their order have none
abbrev pub bys_over : ℕ → LoadCursor → ℕ
bys_over asked (cursor.Rows place) = 0
bys_over asked (cursor.SetWalk c) = c.bys
bys_over asked (cursor.MergeWalk c) = c.bys
bys_over asked (cursor.Set c) = c.bys
bys_over asked (cursor.Merge c) = c.bys
bys_over asked (cursor.Kept k) = asked

-- so many of the tables that are asked for are read row by row
abbrev pub tables_by_row : ℕ → LoadCursor → ℕ
tables_by_row asked (cursor.Rows place) = asked
tables_by_row asked (cursor.SetWalk c) = 0
tables_by_row asked (cursor.MergeWalk c) = 0
tables_by_row asked (cursor.Set c) = 0
tables_by_row asked (cursor.Merge c) = 0
tables_by_row asked (cursor.Kept k) = 0

-- a cursor is one of a statement: it has as many tables and BY variables, and reads at most 16 tables row by row
abbrev pub IsCursorOver : Reading → LoadCursor → Type 0
IsCursorOver statement c =
    (tables_over (length statement.tables) c ≡ length statement.tables) × (bys_over (length statement.bys) c ≡ length statement.bys)
    × (tables_by_row (length statement.tables) c ≤ 16)

-- the load to which a cursor has gone, where it has gone on
abbrev pub load_gone_to : Bool → LoadInCode → Option LoadInCode
load_gone_to true load = Some load
load_gone_to false load = None

-- a cursor has given the first of the loads that were left, and those behind it are left now; it gives none where none was left
pub record HasGivenNext (at : TableLoad) (given : Option LoadInCode) (before after : LoadCursor) : Type 0 where
  pub next : MatchOption given (cursor_left at before ≡ []) (λ load. cursor_left at before ≡ settings_of_numbers at load ∷ cursor_left at after)
  pub groups : cursor_groups at after ≡ cursor_groups at before
  pub over : IsCursorOver at.reading.now after

-- a cursor stands before a group, which has so many loads
pub record HasEntered (at : TableLoad) (group loads : ℕ) (before after : LoadCursor) : Type 0 where
  pub entered : slice_get (cursor_groups at before) group ≡ Some (take loads (cursor_left at after))
  pub groups : cursor_groups at after ≡ cursor_groups at before
  pub over : IsCursorOver at.reading.now before → IsCursorOver at.reading.now after

-- a load is one of a statement over these tables; with `retains` columns without a row keep their values
pub record IsLoadOver (statement : Reading) (retains : Bool) (contents : List Contents) (at : TableLoad) : Type 0 where
  pub reading : at.reading.now ≡ statement
  pub retained : at.retains ≡ retains
  pub tables : at.tables.now ≡ contents

-- a cursor of a statement, without groups, stands before the first of these loads
pub record IsOpenWalk (statement : Reading) (retains : Bool) (tables : List Contents) (loads : List KeyedLoad) (c : LoadCursor) : Type 0 where
  pub over : IsCursorOver statement c
  pub left : (at : TableLoad) → IsLoadOver statement retains tables at → cursor_left at c ≡ map (settings_of_keyed at) loads

-- a cursor of a statement stands before the first of these loads, which are in groups at a grain
pub record IsOpenCursor (statement : Reading) (grain : ℕ) (loads : List KeyedLoad) (c : LoadCursor) : Type 0 where
  pub over : IsCursorOver statement c
  pub left : (at : TableLoad) → at.reading.now ≡ statement → cursor_left at c ≡ map (settings_of_keyed at) loads
  pub groups : (at : TableLoad) → at.reading.now ≡ statement → cursor_groups at c ≡ map (map (settings_of_keyed at)) (groups grain loads)

-- the loads of a program that reads no tables: one that reads nothing, or none
abbrev pub bare_loads_of : Bool → List KeyedLoad
bare_loads_of true = keyed_load [] [] [] ∷ []
bare_loads_of false = []
