use Rattle.std.proofs.Common.{◌≡◌, ◌++◌, length}
use Rattle.ds2_answer.specs.ObjectPlans.{references_of}
use Rattle.ds2_store_steps.proofs.references.references_of.Given as goal

abbrev pub invariant-codes : goal.invariant-codes
invariant-codes l = l.references ++ references_of l.left ≡ references_of l.codes

abbrev pub decreases-codes : goal.decreases-codes
decreases-codes l = length l.left
