-- What a cursor of `merge` keeps.
use Rattle.std.specs.Prelude.{◌≡◌, ℕ, zero, suc, ◌+◌, ◌-◌, ◌^◌, ◌<◌, ◌≤◌, max, nat_eq, nat_lt, Bool, true, false, if◌then◌else◌, List, [], ◌∷◌, ◌++◌, length, map, take, drop, slice_get, get_or, Option, Some, None}
use Rattle.std.specs.Option.{option_map, option_map_or}
use Rattle.ds2_value.specs.Order.{same_row}
use Rattle.ds2_value.specs.declared.value.Value.{Value}
use Rattle.ds2_table.specs.LoadLaws.{HaveTableKeys, rows_of_key}
use Rattle.ds2_table.specs.Loads.{InputRow, KeyedLoad, input_rows, rows_with_key, matches, most_rows, each_once, keys_of_rows, loads_of_keys, merge_loads, groups}
use Rattle.ds2_reading.specs.CursorState.{start_at}
use Rattle.ds2_reading.specs.GroupStarts.{group_openings}
use Rattle.ds2_reading.specs.KeyOrder.{InputKeys}
use Rattle.ds2_reading.specs.Places.{item_before, all_rows, common_before}
use Rattle.ds2_merge.specs.declared.key_place.KeyPlace.{KeyPlace}
use Rattle.ds2_merge.specs.declared.key_place.KeyRows.{KeyRows}
use Rattle.ds2_merge.specs.declared.key_place.MergePlace.{MergePlace}

-- before the first load
abbrev pub opening_key_place : KeyPlace
opening_key_place = record { start = 0; loads = 0 }

-- behind all loads of a key
abbrev pub key_place_behind : KeyPlace → KeyRows → KeyPlace
key_place_behind place key = record { start = key.end; loads = place.loads + key.count }

-- at a place between two keys
abbrev pub between_keys : KeyPlace → MergePlace
between_keys place = record { place = place; key = None }

-- behind the next load of a key
abbrev pub behind_load_of_key : KeyPlace → KeyRows → MergePlace
behind_load_of_key place key =
    if nat_lt (key.given + 1) key.count then record { place = place; key = Some (record key { given = key.given + 1 }) } else between_keys (key_place_behind place key)

-- how many loads of a key were given
abbrev pub loads_given_of_key : Option KeyRows → ℕ
loads_given_of_key None = 0
loads_given_of_key (Some key) = key.given

-- how many loads were given
abbrev pub loads_given : MergePlace → ℕ
loads_given m = m.place.loads + loads_given_of_key m.key

-- the greatest number of rows that one of so many tables has between two places
abbrev pub most_between : List ℕ → List ℕ → ℕ → ℕ
most_between begins ends zero = 0
most_between begins ends (suc tables) = max (most_between begins ends tables) (get_or ends tables 0 - get_or begins tables 0)

-- none of these rows has the key of one before them
abbrev pub HaveNewKeys : (before : List InputRow) → List InputRow → Type 0
HaveNewKeys before [] = Unit {0}
HaveNewKeys before (row ∷ rows) = (rows_of_key row.key before ≡ []) × HaveNewKeys before rows

-- the loads of the keys of some rows, each with all rows of the key, before their flags are known
abbrev pub loads_of_rows : InputKeys → List InputRow → List KeyedLoad
loads_of_rows input rows = loads_of_keys (length input.tables) (input_rows 0 input.tables) (each_once [] (keys_of_rows rows))

-- all rows in BY order
abbrev pub ordered_rows : InputKeys → List InputRow
ordered_rows input = all_rows input.descending input.tables

-- the loads of all keys
abbrev pub loads_of_all : InputKeys → List KeyedLoad
loads_of_all input = loads_of_rows input (ordered_rows input)

-- the rows that are left behind so many
abbrev pub left_behind : InputKeys → ℕ → List InputRow
left_behind input start = drop start (ordered_rows input)

-- the rows from a place up to another one
abbrev pub rows_between : InputKeys → (from end : ℕ) → List InputRow
rows_between input from end = take (end - from) (left_behind input from)

-- the key of the row at a place
abbrev pub key_at : InputKeys → ℕ → List Value
key_at input place = option_map_or (λ (row : InputRow). row.key) (slice_get (ordered_rows input) place) []

-- tables that a cursor can read
pub record HasTables (input : InputKeys) : Type 0 where
  pub few_tables : length input.tables ≤ 16
  pub few_bys : length input.descending ≤ 16
  pub keys : HaveTableKeys input.descending input.tables
  pub room : length (ordered_rows input) < 2 ^ 32

-- a load and a row have equal keys, or neither is there
abbrev pub HaveLikeKeys : Option KeyedLoad → Option InputRow → Type 0
HaveLikeKeys None None = Unit {0}
HaveLikeKeys None (Some row) = ⊥
HaveLikeKeys (Some load) None = ⊥
HaveLikeKeys (Some load) (Some row) = same_row row.key load.key ≡ true

-- a place between two keys: the rows before it are all rows of the keys whose loads were given
pub record IsBetweenKeys (input : InputKeys) (place : KeyPlace) : Type 0 where
  pub there : place.start ≤ length (ordered_rows input)
  pub new_keys : HaveNewKeys (take place.start (ordered_rows input)) (left_behind input place.start)
  pub few : place.loads ≤ place.start
  pub loads : drop place.loads (loads_of_all input) ≡ loads_of_rows input (left_behind input place.start)
  pub within : place.loads ≤ length (loads_of_all input)
  pub previous : HaveLikeKeys (item_before (loads_of_all input) place.loads) (item_before (ordered_rows input) place.start)

-- of the rows from a place on those of the first one's key come first, and then those behind this end; the last row before the end has it
pub record IsKeyEnd (input : InputKeys) (start end : ℕ) : Type 0 where
  pub low : start < end
  pub high : end ≤ length (ordered_rows input)
  pub rows : left_behind input start ≡ rows_of_key (key_at input start) (left_behind input start) ++ left_behind input end
  pub others : rows_of_key (key_at input start) (left_behind input end) ≡ []
  pub last : InputRow
  pub last_there : item_before (ordered_rows input) end ≡ Some last
  pub last_has : same_row last.key (key_at input start) ≡ true

-- the rows between two places are those of the first one's key
pub record IsKeyRun (input : InputKeys) (start end : ℕ) : Type 0 where
  pub low : start ≤ end
  pub high : end ≤ length (ordered_rows input)
  pub rows : rows_between input start end ≡ rows_of_key (key_at input start) (input_rows 0 input.tables)

-- a row of a table
abbrev pub is_row_of : ℕ → Option InputRow → Bool
is_row_of table None = false
is_row_of table (Some row) = nat_eq row.table table

-- from a place up to this one, or an end, the rows are those of a table, and the next one is of another
pub record IsTableEnd (input : InputKeys) (table from end result : ℕ) : Type 0 where
  pub low : from ≤ result
  pub high : result ≤ end
  pub own : (k : ℕ) → from ≤ k → k < result → is_row_of table (slice_get (ordered_rows input) k) ≡ true
  pub other : result < end → is_row_of table (slice_get (ordered_rows input) result) ≡ false

-- between these places a table has its rows of the key at a place
pub record IsTableOfKey (input : InputKeys) (start table begin end : ℕ) : Type 0 where
  pub high : end ≤ length (ordered_rows input)
  pub rows : rows_with_key table (key_at input start) (input_rows 0 input.tables) ≡ map (λ (row : InputRow). row.number) (rows_between input begin end)

-- likewise each table
abbrev pub HaveTablePlaces : InputKeys → (start : ℕ) → (begins ends : List ℕ) → Type 0
HaveTablePlaces input start begins ends = (t : ℕ) → t < length input.tables → IsTableOfKey input start t (get_or begins t 0) (get_or ends t 0)

-- all rows of a key, the first ones that are left behind a place
pub record IsKeyEntered (input : InputKeys) (place : KeyPlace) (key : KeyRows) : Type 0 where
  pub here : IsBetweenKeys input place
  pub end : IsKeyEnd input place.start key.end
  pub run : IsKeyRun input place.start key.end
  pub tables : HaveTablePlaces input place.start key.begins key.ends
  pub count : key.count ≡ most_rows (matches (length input.tables) (key_at input place.start) (input_rows 0 input.tables))
  pub some : 0 < key.count

-- some of the loads of a key are left
pub record IsAmongLoads (input : InputKeys) (place : KeyPlace) (key : KeyRows) : Type 0 where
  pub tables : HasTables input
  pub entered : IsKeyEntered input place key
  pub given : key.given < key.count

-- the key behind a place between keys, none of whose loads were given, and none exactly where no row is left
abbrev pub IsNextKey : InputKeys → KeyPlace → Option KeyRows → Type 0
IsNextKey input place None = left_behind input place.start ≡ []
IsNextKey input place (Some key) = IsKeyEntered input place key × (key.given ≡ 0) × (key.given < key.count)

-- a cursor between two keys, or among the loads of one
abbrev pub IsWithinKey : InputKeys → KeyPlace → Option KeyRows → Type 0
IsWithinKey input place None = Unit {0}
IsWithinKey input place (Some key) = IsKeyEntered input place key × (key.given < key.count)

-- a cursor that can give the next load
pub record IsReadyToMerge (input : InputKeys) (m : MergePlace) : Type 0 where
  pub tables : HasTables input
  pub place : IsBetweenKeys input m.place
  pub key : IsWithinKey input m.place m.key

-- the key whose load comes next, and none exactly behind the last load
abbrev pub IsCurrentKey : InputKeys → MergePlace → Option KeyRows → Type 0
IsCurrentKey input m None = (left_behind input m.place.start ≡ []) × (loads_given m ≡ m.place.loads)
IsCurrentKey input m (Some key) = IsAmongLoads input m.place key × (loads_given m ≡ m.place.loads + key.given)

-- ---- flags

-- in how many BY variables a load of a key, of which so many were given, is equal to the load before
abbrev pub common_at_load : InputKeys → (start given : ℕ) → ℕ
common_at_load input start given = if nat_eq given 0 then common_before input start else length input.descending

-- likewise to the load behind it
abbrev pub common_behind_load : InputKeys → KeyRows → ℕ
common_behind_load input key = if nat_lt (key.given + 1) key.count then length input.descending else common_before input key.end

-- ---- groups

-- places where the groups of a grain begin, and the one behind the last load
pub record StandAtKeys (input : InputKeys) (grain : ℕ) (starts : List KeyPlace) : Type 0 where
  pub count : length starts ≡ length (groups grain (merge_loads input.descending input.tables)) + 1
  pub each : (g : ℕ) (place : KeyPlace) → slice_get starts g ≡ Some place
      → IsBetweenKeys input place × (place.loads ≡ start_at grain (merge_loads input.descending input.tables) g)

-- the numbers of the loads that open groups, of the loads behind so many
abbrev pub key_openings_left : ℕ → List KeyedLoad → ℕ → List ℕ
key_openings_left grain loads k =
    group_openings grain k (option_map (λ (l : KeyedLoad). l.key) (item_before loads k)) (map (λ (l : KeyedLoad). l.key) (drop k loads))

-- up to a place, the places where groups begin
pub record HasKeyPlaces (input : InputKeys) (grain : ℕ) (place : KeyPlace) (starts : List KeyPlace) : Type 0 where
  pub here : IsBetweenKeys input place
  pub each : (g : ℕ) (p : KeyPlace) → slice_get starts g ≡ Some p → IsBetweenKeys input p
  pub openings : map (λ (p : KeyPlace). p.loads) starts ++ key_openings_left grain (loads_of_all input) place.loads
      ≡ key_openings_left grain (loads_of_all input) 0
