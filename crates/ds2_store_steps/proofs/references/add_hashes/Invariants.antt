use Rattle.std.proofs.Common.{◌≡◌, ◌++◌, length}
use Rattle.ds2_code_answer.specs.CodeTables.{hash_references}
use Rattle.ds2_store_steps.proofs.references.add_hashes.Given as goal

abbrev pub invariant-hashes : goal.invariant-hashes
invariant-hashes l = l.references ++ hash_references l.rest ≡ l.initial.references ++ hash_references l.hashes

abbrev pub decreases-hashes : goal.decreases-hashes
decreases-hashes l = length l.rest
