use Rattle.std.proofs.Common.{length, []}
use Rattle.std.specs.Prelude.{nat_eq}
use Rattle.std.specs.Cmp.Lexicographic.{pointwise}
use Rattle.std.specs.HashSet.{contains}
use Rattle.ds2_answer.specs.TablePlans.{none_made}
use Rattle.ds2_store_steps.proofs.ReferenceSteps.{NamedSoFar}
use Rattle.ds2_store_steps.proofs.references.inputs_of.Given as goal

abbrev pub invariant-references : goal.invariant-references
invariant-references l = NamedSoFar none_made [] l.references l.left (contains (pointwise nat_eq) l.known) l.names

abbrev pub decreases-references : goal.decreases-references
decreases-references l = length l.left
