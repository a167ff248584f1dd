use Rattle.ds2_local.specs.CallParts.{AreJoined, AreReached}
use Rattle.ds2_local.proofs.members.mark_way.Given as goal

abbrev pub invariant-way : goal.invariant-way
invariant-way l = AreReached l.all l.from → AreJoined l.all l.fn.marks → AreJoined l.all l.marks
