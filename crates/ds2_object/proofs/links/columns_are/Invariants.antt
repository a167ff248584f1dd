use Rattle.std.proofs.Common.{◌≡◌, length}
use Rattle.ds2_object.specs.ObjectSpelling.{columns_are}
use Rattle.ds2_object.proofs.links.columns_are.Given as goal

abbrev pub invariant-columns : goal.invariant-columns
invariant-columns l = columns_are l.slots l.rest l.left ≡ columns_are l.slots l.made l.columns

abbrev pub decreases-columns : goal.decreases-columns
decreases-columns l = length l.rest
