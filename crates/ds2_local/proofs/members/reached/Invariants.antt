use Rattle.ds2_local.specs.CallParts.{AreReached}
use Rattle.ds2_local.proofs.members.reached.Given as goal

abbrev pub invariant-methods : goal.invariant-methods
invariant-methods l = AreReached l.all l.marks
