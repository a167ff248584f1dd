-- Cursors: what stands for a cursor over the loads of a reading statement, and what its calls give.
use Rattle.std.specs.Prelude.{ℕ, ◌+◌, min, List, length, take, slice_get, Option}
use Rattle.std.specs.Option.{option_map}
use Rattle.ds2_table.specs.LoadLaws.{one_after_another}
use Rattle.ds2_table.specs.Loads.{Load, KeyedLoad, groups}

-- a cursor: the numbers of tables and of BY variables of its statement, the grain of its groups, all loads, and how many of
-- them it has given
pub record Cursor : Type 0 where
  pub tables : ℕ
  pub bys : ℕ
  pub grain : ℕ
  pub loads : List KeyedLoad
  pub given : ℕ

-- a cursor that has given none of these loads
abbrev pub cursor_at_start : (tables bys grain : ℕ) → List KeyedLoad → Cursor
cursor_at_start tables bys grain loads = record { tables = tables; bys = bys; grain = grain; loads = loads; given = 0 }

-- the load that comes next, and none behind the last one
abbrev pub next_load_of : Cursor → Option Load
next_load_of c = option_map (λ (l : KeyedLoad). l.load) (slice_get c.loads c.given)

-- the cursor behind the next load
abbrev pub behind_next : Cursor → Cursor
behind_next c = record c { given = min (c.given + 1) (length c.loads) }

-- the number of groups
abbrev pub group_count : Cursor → ℕ
group_count c = length (groups c.grain c.loads)

-- the number of the load that opens a group at a grain: as many loads as the groups before it have
abbrev pub start_at : ℕ → List KeyedLoad → ℕ → ℕ
start_at grain loads g = length (one_after_another (take g (groups grain loads)))

-- likewise of the groups of a cursor
abbrev pub start_of_group : Cursor → ℕ → ℕ
start_of_group c g = start_at c.grain c.loads g

-- the cursor before the first load of a group
abbrev pub before_group : ℕ → Cursor → Cursor
before_group g c = record c { given = start_of_group c g }
