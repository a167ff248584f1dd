use Rattle.std.proofs.Common.{◌≡◌, ◌++◌, length}
use Rattle.csv.specs.Writing.{default_writer, escaped}
use Rattle.ds2_csv_records.proofs.write.add_escaped.Given as goal

abbrev pub invariant-bytes : goal.invariant-bytes
invariant-bytes l = l.out ++ escaped default_writer l.rest ≡ l.fn.out ++ escaped default_writer l.cell

abbrev pub decreases-bytes : goal.decreases-bytes
decreases-bytes l = length l.rest
