use Rattle.std.proofs.Common.{List, length}
use Rattle.ds2_code.specs.declared.parts.HashPart.{HashPart}
use Rattle.ds2_code.specs.declared.parts.StagedParts.{StagedParts}
use Rattle.ds2_object.specs.ObjectSpelling.{hash_linked}
use Rattle.ds2_object_words.specs.CodeParts.{hash_spelled}
use Rattle.ds2_object.proofs.WalkLemmas.{WalkLeft}
use Rattle.ds2_object.proofs.linked.hashes_are_made.Given as goal

abbrev pub invariant-hashes : goal.invariant-hashes
invariant-hashes l = WalkLeft l.made (λ (earlier : List StagedParts) (h : HashPart). hash_linked earlier h) hash_spelled l.hashes l.rest

abbrev pub decreases-hashes : goal.decreases-hashes
decreases-hashes l = length l.rest
