use Rattle.std.proofs.Common.{length}
use Rattle.std.specs.Prelude.{nat_eq}
use Rattle.std.specs.Cmp.Lexicographic.{pointwise}
use Rattle.std.specs.HashSet.{contains}
use Rattle.ds2_store_steps.proofs.ReferenceSteps.{KeptSoFar}
use Rattle.ds2_store_steps.proofs.references.names_kept.Given as goal

abbrev pub invariant-references : goal.invariant-references
invariant-references l = KeptSoFar l.references l.left (contains (pointwise nat_eq) l.names)

abbrev pub decreases-references : goal.decreases-references
decreases-references l = length l.left
