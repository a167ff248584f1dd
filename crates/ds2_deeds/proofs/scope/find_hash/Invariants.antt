use Rattle.std.proofs.Common.{◌≡◌, drop}
use Rattle.ds2_meaning.specs.HashObjects.{hash_named}
use Rattle.ds2_deeds.proofs.scope.find_hash.Given as goal

abbrev pub invariant-hashes : goal.invariant-hashes
invariant-hashes l = hash_named (drop l.hash-index l.hashes) l.name ≡ hash_named l.hashes l.name
