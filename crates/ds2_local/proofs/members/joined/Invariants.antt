use Rattle.ds2_local.specs.CallParts.{AreJoined}
use Rattle.ds2_local.proofs.members.joined.Given as goal

abbrev pub invariant-methods : goal.invariant-methods
invariant-methods l = AreJoined l.all l.marks
