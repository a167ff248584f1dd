-- What a cursor of `set` keeps: each row is a load, so a place of the BY order is the number of the loads that were given.
use Rattle.std.specs.Prelude.{◌≡◌, ℕ, ◌+◌, ◌^◌, ◌<◌, ◌≤◌, ◌++◌, length, map, drop, List, slice_get, Some}
use Rattle.std.specs.Option.{option_map}
use Rattle.ds2_table.specs.LoadLaws.{HaveTableKeys}
use Rattle.ds2_table.specs.Loads.{InputRow, set_loads, groups}
use Rattle.ds2_reading.specs.CursorState.{start_at}
use Rattle.ds2_reading.specs.GroupStarts.{group_openings}
use Rattle.ds2_reading.specs.KeyOrder.{InputKeys}
use Rattle.ds2_reading.specs.Places.{item_before, all_rows}

-- a place behind which the next load can be given
pub record IsReady (input : InputKeys) (place : ℕ) : Type 0 where
  pub few_tables : length input.tables ≤ 16
  pub few_bys : length input.descending ≤ 16
  pub keys : HaveTableKeys input.descending input.tables
  pub room : length (all_rows input.descending input.tables) < 2 ^ 32
  pub within : place ≤ length (all_rows input.descending input.tables)

-- the loads that begin the groups of a grain, and behind them the number of all loads
pub record StandAtGroups (input : InputKeys) (grain : ℕ) (starts : List ℕ) : Type 0 where
  pub count : length starts ≡ length (groups grain (set_loads input.descending input.tables)) + 1
  pub each : (g place : ℕ) → slice_get starts g ≡ Some place
      → (place ≤ length (all_rows input.descending input.tables)) × (place ≡ start_at grain (set_loads input.descending input.tables) g)

-- the numbers of the loads that open groups, of the rows behind so many
abbrev pub openings_left : ℕ → List InputRow → ℕ → List ℕ
openings_left grain rows k = group_openings grain k (option_map (λ (r : InputRow). r.key) (item_before rows k)) (map (λ (r : InputRow). r.key) (drop k rows))

-- up to a place, the loads that begin groups
pub record HasStarts (input : InputKeys) (grain place : ℕ) (starts : List ℕ) : Type 0 where
  pub each : (g start : ℕ) → slice_get starts g ≡ Some start → start ≤ length (all_rows input.descending input.tables)
  pub openings : starts ++ openings_left grain (all_rows input.descending input.tables) place ≡ openings_left grain (all_rows input.descending input.tables) 0
