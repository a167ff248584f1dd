use Rattle.std.proofs.Common.{length, map}
use Rattle.ds2_csv.specs.Text.{heading_text}
use Rattle.ds2_csv.proofs.Writing.{Written}
use Rattle.ds2_csv.proofs.write.header_cells.Given as goal

abbrev pub invariant-columns : goal.invariant-columns
invariant-columns l = Written l.fn.out l.out l.first (map heading_text l.rest) (map heading_text l.columns)

abbrev pub decreases-columns : goal.decreases-columns
decreases-columns l = length l.rest
