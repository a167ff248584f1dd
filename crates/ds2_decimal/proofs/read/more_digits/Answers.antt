use Rattle.std.proofs.Common.{◌≡◌, ℕ, ◌+◌, List, ◌∷◌, drop, get_or, ap, sym, ◌∙◌, arith}
use Rattle.std.proofs.lemmas.List.{drop_more}
use Rattle.ds2_decimal.specs.Steps.{digits_behind}
use Rattle.ds2_decimal.proofs.TextLemmas.{digits_after_full}
use Rattle.ds2_decimal.proofs.read.more_digits.Goals as goal

pub returns-then-value-ge-LAST-clause-value : goal.returns-then-value-ge-LAST-clause-value
returns-then-value-ge-LAST-clause-value c =
    let ds : List ℕ = c.args.digits.now in
    let i : ℕ = c.loop-digit.digit-index in
    let next : drop i ds ≡ get_or ds i 0 ∷ drop (i + 1) ds = drop_more ds i 0 (omega arith) in
    sym (c.loop-digit.invariant.still ∙ ap (λ (left : List ℕ). digits_behind c.loop-digit.value left) next ∙ digits_after_full c.loop-digit.value (get_or ds i 0) (drop (i + 1) ds) (omega arith))
