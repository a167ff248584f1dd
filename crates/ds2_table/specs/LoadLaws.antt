-- Laws of loads: groups are a division of the loads, and loads in two parts run as one.
use Rattle.std.specs.Prelude.{◌≡◌, IsTrue, ℕ, ◌+◌, List, [], ◌∷◌, ◌++◌, Bool, not, length, filter}
use Rattle.std.specs.List.{list_all}
use Rattle.std.specs.Ordering.{is_gt}
use Rattle.ds2_value.specs.declared.value.Value.{Value}
use Rattle.ds2_value.specs.Order.{same_row}
use Rattle.ds2_table.specs.Loads.{InputRow, KeyedLoad, keys_order, in_by_order, set_loads, merge_loads, groups}
use Rattle.ds2_table.specs.OneThread.{Units, Reached, Standing, Halted, Astray, GroupResult, group_at, run_all}

-- ---- BY order

-- each row has a value for each BY variable
abbrev pub HaveKeys : List Bool → List InputRow → Type 0
HaveKeys descending [] = Unit {0}
HaveKeys descending (row ∷ rows) = (length row.key ≡ length descending) × HaveKeys descending rows

-- no row stands before one whose key is before its own
abbrev pub AreSorted : List Bool → List InputRow → Type 0
AreSorted descending [] = Unit {0}
AreSorted descending (row ∷ rows) =
    IsTrue (list_all (λ (other : InputRow). not (is_gt (keys_order descending row.key other.key))) rows) × AreSorted descending rows

-- the rows that have a key
abbrev pub rows_of_key : List Value → List InputRow → List InputRow
rows_of_key key rows = filter (λ (row : InputRow). same_row row.key key) rows

-- in BY order a row stands before another one exactly where its key is before the other's, or the keys are equal and it comes
-- first in the statement: rows are sorted, and those of one key are the same rows in the same order as before
abbrev pub RowsStandInByOrder : Type 0
RowsStandInByOrder = (descending : List Bool) (rows : List InputRow) → HaveKeys descending rows
    → AreSorted descending (in_by_order descending rows)
    × ((key : List Value) → rows_of_key key (in_by_order descending rows) ≡ rows_of_key key rows)

-- ---- groups

-- the loads of groups, one group after the other
abbrev pub one_after_another : List (List KeyedLoad) → List KeyedLoad
one_after_another [] = []
one_after_another (group ∷ more) = group ++ one_after_another more

-- behind a load with this key each load has a value for each BY variable, and none stands before the one that it follows
abbrev pub AreInOrderAfter : List Bool → List Value → List KeyedLoad → Type 0
AreInOrderAfter descending previous [] = Unit {0}
AreInOrderAfter descending previous (l ∷ loads) =
    (length l.key ≡ length descending) × IsTrue (not (is_gt (keys_order descending previous l.key))) × AreInOrderAfter descending l.key loads

-- loads in BY order
abbrev pub AreInByOrder : List Bool → List KeyedLoad → Type 0
AreInByOrder descending [] = Unit {0}
AreInByOrder descending (l ∷ loads) = (length l.key ≡ length descending) × AreInOrderAfter descending l.key loads

-- keys with a value for each BY variable
abbrev pub AreKeys : List Bool → List (List Value) → Type 0
AreKeys descending [] = Unit {0}
AreKeys descending (key ∷ keys) = (length key ≡ length descending) × AreKeys descending keys

-- the key of each row of each table has a value for each BY variable
abbrev pub HaveTableKeys : List Bool → List (List (List Value)) → Type 0
HaveTableKeys descending [] = Unit {0}
HaveTableKeys descending (keys ∷ tables) = AreKeys descending keys × HaveTableKeys descending tables

-- the loads of `set` and those of `merge` stand in BY order
abbrev pub LoadsStandInByOrder : Type 0
LoadsStandInByOrder = (descending : List Bool) (tables : List (List (List Value))) → HaveTableKeys descending tables
    → AreInByOrder descending (set_loads descending tables) × AreInByOrder descending (merge_loads descending tables)

-- the groups of loads in BY order, one after the other, are these loads in their order
abbrev pub GroupsDivideLoads : Type 0
GroupsDivideLoads = (descending : List Bool) (p : ℕ) (loads : List KeyedLoad) → AreInByOrder descending loads → one_after_another (groups p loads) ≡ loads

-- ---- runs

-- the results of loads and of loads after them
abbrev pub both_results : {C : Type 0} → GroupResult C → GroupResult C → GroupResult C
both_results first after = record {
  rows = first.rows ++ after.rows;
  lines = first.lines ++ after.lines;
  ways = first.ways ++ after.ways;
  budgets_left = first.budgets_left ++ after.budgets_left;
  executed = first.executed + after.executed;
  reached = after.reached;
}

-- goes on where the program stands; behind a fault, or astray, nothing runs
abbrev pub from_there : {C : Type 0} → Reached C → (C → GroupResult C) → GroupResult C
from_there (Standing c) go = go c
from_there (Halted fault place) go = group_at (Halted fault place)
from_there Astray go = group_at Astray

-- what loads leave, and then what further loads leave
abbrev pub then_group : {C : Type 0} → GroupResult C → (C → GroupResult C) → GroupResult C
then_group first go = both_results first (from_there first.reached go)

-- loads in two parts run as one list
abbrev pub PartsRunAsOne : Type 0 → Type 0 → Type 0
PartsRunAsOne L C = (units : Units L C) (xs ys : List L) (c : C) → run_all units (xs ++ ys) c ≡ then_group (run_all units xs c) (run_all units ys)
