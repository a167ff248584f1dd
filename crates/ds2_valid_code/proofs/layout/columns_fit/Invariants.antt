use Rattle.std.proofs.Common.{◌≡◌, length}
use Rattle.ds2_code.specs.ValidCode.{columns_fit}
use Rattle.ds2_valid_code.proofs.layout.columns_fit.Given as goal

abbrev pub invariant-columns : goal.invariant-columns
invariant-columns l = columns_fit l.slots l.rest l.left ≡ columns_fit l.slots l.columns l.into

abbrev pub decreases-columns : goal.decreases-columns
decreases-columns l = length l.rest
