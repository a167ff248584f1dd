use Rattle.std.proofs.Common.{◌≡◌, [], None, length}
use Rattle.ds2_meaning.specs.IsTyped.{thread_parameters}
use Rattle.ds2_same_meaning.proofs.instances.read_names.Given as goal

abbrev pub invariant-instances : goal.invariant-instances
invariant-instances l = thread_parameters l.rest [] ≡ None → thread_parameters l.instances [] ≡ None

abbrev pub decreases-instances : goal.decreases-instances
decreases-instances l = length l.rest
