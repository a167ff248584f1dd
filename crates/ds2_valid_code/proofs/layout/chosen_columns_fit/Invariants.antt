use Rattle.std.proofs.Common.{◌≡◌, length}
use Rattle.ds2_code.specs.ValidCode.{chosen_columns_fit}
use Rattle.ds2_valid_code.proofs.layout.chosen_columns_fit.Given as goal

abbrev pub invariant-columns : goal.invariant-columns
invariant-columns l = chosen_columns_fit l.slots l.columns l.rest l.left ≡ chosen_columns_fit l.slots l.columns l.chosen l.into

abbrev pub decreases-columns : goal.decreases-columns
decreases-columns l = length l.rest
