use Rattle.std.proofs.Common.{◌≡◌, ℕ, true, ◌-◌, ◌<◌, ◌≤◌}
use Rattle.std.specs.Prelude.{slice_get}
use Rattle.ds2_merge.specs.KeyPlaces.{ordered_rows, is_row_of}
use Rattle.ds2_merge.proofs.next_key.end_of_table.Given as goal

abbrev pub invariant-rows : goal.invariant-rows
invariant-rows l =
    (l.fn.from ≤ l.place) × (l.place ≤ l.end)
    × ((k : ℕ) → l.fn.from ≤ k → k < l.place → is_row_of l.table (slice_get (ordered_rows l.rows) k) ≡ true)

abbrev pub decreases-rows : goal.decreases-rows
decreases-rows l = l.end - l.place
