use Rattle.std.proofs.Common.{length}
use Rattle.ds2_object.proofs.MadeLemmas.{OutputsLeft}
use Rattle.ds2_object.proofs.made.add_outputs.Given as goal

abbrev pub invariant-outputs : goal.invariant-outputs
invariant-outputs l = OutputsLeft l.fn.made l.maker l.slots l.outputs l.made l.rest

abbrev pub decreases-outputs : goal.decreases-outputs
decreases-outputs l = length l.rest
