use Rattle.std.proofs.Common.{ℕ, suc, List, length}
use Rattle.std.specs.Prelude.{if◌then◌else◌}
use Rattle.ds2_csv_records.specs.Reading.{Holds, IsWithin}
use Rattle.ds2_csv_records.proofs.read.next_record.Given as goal

abbrev pub invariant-cells : goal.invariant-cells
invariant-cells l = (cells : List (List ℕ)) × Holds l.row l.most cells × IsWithin l.text cells l.taken

abbrev pub decreases-cells : goal.decreases-cells
decreases-cells l = if l.taken.more then suc (length l.taken.rest.now) else 0
