use Rattle.std.proofs.Common.{List}
use Rattle.ds2_code.specs.declared.parts.HashPart.{HashPart}
use Rattle.ds2_code.specs.declared.parts.StagedParts.{StagedParts}
use Rattle.ds2_object_words.specs.CodeParts.{hash_spelled}
use Rattle.ds2_object.specs.ObjectSpelling.{hash_linked}
use Rattle.ds2_object.proofs.MadeLemmas.{first_and_rest, none_behind}
use Rattle.ds2_object.proofs.WalkLemmas.{walk_begun, walk_first, walk_more, walk_broken, walk_done}
use Rattle.ds2_object.proofs.linked.hashes_are_made.Goals as goal

pub hashes-init : goal.hashes-init
hashes-init c = walk_begun c.args.made.now (λ (earlier : List StagedParts) (h : HashPart). hash_linked earlier h) hash_spelled c.args.hashes.now c.requires

pub hash_is_made-requires : goal.hash_is_made-requires
hash_is_made-requires c =
    walk_first c.args.made.now (λ (earlier : List StagedParts) (h : HashPart). hash_linked earlier h) hash_spelled c.args.hashes.now c.first-item.result c.hashes.rest.now _ (first_and_rest c.hashes.rest.now c.first-item.result c.in-len1-up.len_at_least c.first-item.is) c.hashes.invariant

pub returns-then-not-branch : goal.returns-then-not-branch
returns-then-not-branch c =
    walk_broken c.args.made.now (λ (earlier : List StagedParts) (h : HashPart). hash_linked earlier h) hash_spelled c.args.hashes.now c.first-item.result c.hashes.rest.now _ c.in_ok-hash_is_made.field-0 (first_and_rest c.hashes.rest.now c.first-item.result c.in-len1-up.len_at_least c.first-item.is) c.if-not-branch.true c.in_ok-hash_is_made.ensures c.hashes.invariant

pub hashes-preserved : goal.hashes-preserved
hashes-preserved c =
    walk_more c.args.made.now (λ (earlier : List StagedParts) (h : HashPart). hash_linked earlier h) hash_spelled c.args.hashes.now c.first-item.result c.hashes.rest.now _ c.in_ok-hash_is_made.field-0 (first_and_rest c.hashes.rest.now c.first-item.result c.in-len1-up.len_at_least c.first-item.is) c.if-not-branch.false c.in_ok-hash_is_made.ensures c.hashes.invariant

pub returns : goal.returns
returns c = walk_done c.args.made.now (λ (earlier : List StagedParts) (h : HashPart). hash_linked earlier h) hash_spelled c.args.hashes.now c.hashes.rest.now (none_behind c.hashes.rest.now c.in_default.len_below) c.hashes.invariant
