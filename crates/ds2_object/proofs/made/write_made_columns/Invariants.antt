use Rattle.std.proofs.Common.{length}
use Rattle.ds2_object.proofs.MadeLemmas.{ColumnsLeft}
use Rattle.ds2_object.proofs.made.write_made_columns.Given as goal

abbrev pub invariant-columns : goal.invariant-columns
invariant-columns l = ColumnsLeft l.fn.out l.slots l.columns l.out l.rest

abbrev pub decreases-columns : goal.decreases-columns
decreases-columns l = length l.rest
