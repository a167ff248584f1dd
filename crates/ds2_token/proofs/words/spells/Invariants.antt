use Rattle.std.proofs.Common.{◌≡◌, length}
use Rattle.ds2_token.specs.Words as words
use Rattle.ds2_token.proofs.words.spells.Given as goal

abbrev pub invariant-loop-rest : goal.invariant-loop-rest
invariant-loop-rest l = record {
  same : words.spells l.rest l.wanted ≡ words.spells l.letters l.word;
  size : length l.rest ≡ length l.wanted;
}

abbrev pub decreases-loop-rest : goal.decreases-loop-rest
decreases-loop-rest l = length l.rest
