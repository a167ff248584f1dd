use Rattle.std.proofs.Common.{◌≡◌, ℕ, unsigned_abs, FitsSigned, ap, sym, ◌∙◌, rules}
use Rattle.std.specs.Int.{w128}
use Rattle.std.proofs.lemmas.Int.{to_z-of_z}
use Rattle.ds2_decimal.specs.Steps.{quotient}
use Rattle.ds2_decimal.proofs.SignLemmas.{signed_some, signed_none}
use Rattle.ds2_decimal.proofs.quotient.divide_signed.Goals as goal

pub returns-in-Some : goal.returns-in-Some
returns-in-Some c =
    let fits : FitsSigned w128 c.with_sign.result = search rules in
    let first : FitsSigned w128 c.args.dividend = c.ranges.dividend in
    let second : FitsSigned w128 c.args.divisor = c.ranges.divisor in
    let dividend : c.unsigned_abs.result ≡ unsigned_abs c.args.dividend = simp to_z-of_z at c.unsigned_abs.ensures.value in
    let divisor : c.unsigned_abs-2.result ≡ unsigned_abs c.args.divisor = simp to_z-of_z at c.unsigned_abs-2.ensures.value in
    let is = ap (λ (n : ℕ). quotient n c.args.zeros (unsigned_abs c.args.divisor)) (sym dividend) ∙ ap (λ (n : ℕ). quotient c.unsigned_abs.result c.args.zeros n) (sym divisor) ∙ sym c.divide_long.ensures ∙ c.in-Some.is in
    let value = simp to_z-of_z at c.with_sign.ensures in
    rw (to_z-of_z w128 c.with_sign.result fits, value) (sym (signed_some c.args.dividend c.args.divisor c.args.zeros c.in-Some.magnitude c.requires.some_divisor is))

pub returns-in-None : goal.returns-in-None
returns-in-None c =
    let first : FitsSigned w128 c.args.dividend = c.ranges.dividend in
    let second : FitsSigned w128 c.args.divisor = c.ranges.divisor in
    let dividend : c.unsigned_abs.result ≡ unsigned_abs c.args.dividend = simp to_z-of_z at c.unsigned_abs.ensures.value in
    let divisor : c.unsigned_abs-2.result ≡ unsigned_abs c.args.divisor = simp to_z-of_z at c.unsigned_abs-2.ensures.value in
    let is = ap (λ (n : ℕ). quotient n c.args.zeros (unsigned_abs c.args.divisor)) (sym dividend) ∙ ap (λ (n : ℕ). quotient c.unsigned_abs.result c.args.zeros n) (sym divisor) ∙ sym c.divide_long.ensures ∙ c.in-None.is in
    sym (signed_none c.args.dividend c.args.divisor c.args.zeros c.requires.some_divisor is)
