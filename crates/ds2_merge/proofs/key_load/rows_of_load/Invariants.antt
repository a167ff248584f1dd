use Rattle.std.proofs.Common.{◌≡◌, ℕ, ◌<◌, length}
use Rattle.std.specs.Prelude.{slice_get, get_or}
use Rattle.ds2_table.specs.Loads.{rows_with_key, input_rows}
use Rattle.ds2_reading.specs.LoadMeaning.{row_or_none}
use Rattle.ds2_merge.specs.KeyPlaces.{key_at}
use Rattle.ds2_merge.proofs.key_load.rows_of_load.Given as goal

abbrev pub invariant-tables : goal.invariant-tables
invariant-tables l =
    (length l.numbers ≡ 16)
    × ((t : ℕ) → t < l.table → row_or_none (get_or l.numbers t 0) ≡ slice_get (rows_with_key t (key_at l.rows l.place.start) (input_rows 0 l.rows.tables)) l.key.given)
