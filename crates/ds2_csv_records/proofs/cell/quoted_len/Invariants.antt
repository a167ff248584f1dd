use Rattle.std.proofs.Common.{◌≡◌, ◌+◌, true, drop}
use Rattle.ds2_csv_records.specs.Cells.{quoted_len}
use Rattle.ds2_csv_records.proofs.cell.quoted_len.Given as goal

abbrev pub invariant-bytes : goal.invariant-bytes
invariant-bytes l = quoted_len true l.text ≡ l.i + quoted_len l.within (drop l.i l.text)
