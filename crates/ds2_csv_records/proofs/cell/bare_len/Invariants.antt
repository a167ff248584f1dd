use Rattle.std.proofs.Common.{◌≡◌, ℕ, ◌<◌, false, get_or}
use Rattle.ds2_csv_records.specs.Cells.{ends_cell}
use Rattle.ds2_csv_records.proofs.cell.bare_len.Given as goal

abbrev pub invariant-bytes : goal.invariant-bytes
invariant-bytes l = (k : ℕ) → k < l.i → ends_cell (get_or l.text k 0) ≡ false
