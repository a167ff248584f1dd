use Rattle.std.proofs.Common.{◌≡◌, drop}
use Rattle.std.specs.List.{list_any}
use Rattle.ds2_token.specs.Words as words
use Rattle.ds2_token.proofs.words.spells_one_of.Given as goal

abbrev pub invariant-loop-word : goal.invariant-loop-word
invariant-loop-word l = list_any (λ word. words.spells l.letters word.now) (drop l.word-index l.list) ≡ list_any (λ word. words.spells l.letters word.now) l.list
