use Rattle.std.proofs.Common.{◌≡◌, ◌+◌, ◌≤◌, length}
use Rattle.ds2_code_answer.specs.CodeTables.{hash_references}
use Rattle.ds2_loads.proofs.statement.loaded_hashes.Given as goal

abbrev pub invariant-hashes : goal.invariant-hashes
invariant-hashes l = (l.count + length (hash_references l.rest) ≡ length (hash_references l.hashes)) × (l.count + length l.rest ≤ length l.hashes)

abbrev pub decreases-hashes : goal.decreases-hashes
decreases-hashes l = length l.rest
