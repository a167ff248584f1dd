use Rattle.std.proofs.Common.{length}
use Rattle.std.specs.List.{AllByRecursion}
use Rattle.ds2_meaning.specs.View.{typed_data_program}
use Rattle.ds2_same_meaning.specs.SameAnswer.{HasNamedInstances}
use Rattle.ds2_same_meaning.proofs.instances.read_instances.Given as goal

abbrev pub invariant-programs : goal.invariant-programs
invariant-programs l = AllByRecursion (λ p. HasNamedInstances (typed_data_program p)) l.rest → AllByRecursion (λ p. HasNamedInstances (typed_data_program p)) l.programs

abbrev pub decreases-programs : goal.decreases-programs
decreases-programs l = length l.rest
