use Rattle.std.proofs.Common.{ℕ, ◌-◌, ◌*◌, ◌^◌, ◌<◌, ◌≤◌, sym, subst, ◌∙◌, arith, rules}
use Rattle.ds2_decimal.proofs.UnitsLemmas.{zeros_fit}
use Rattle.ds2_decimal.proofs.RoundingLemmas.{quotient_up, quotient_down, quotient_none}
use Rattle.ds2_decimal.proofs.quotient.divide_long.Goals as goal

product_fits : (c : goal.After-power_of_ten-then-dividend-power_of_ten) → c.args.dividend * c.power_of_ten-then-dividend-power_of_ten.result < 10 ^ 38
product_fits c =
    let small : c.args.dividend < 10 ^ (38 - c.args.zeros) = search rules in
    let P : ℕ → Type 0 = λ p. c.args.dividend * p < 10 ^ 38 in
    subst P (sym c.power_of_ten-then-dividend-power_of_ten.ensures.value) (zeros_fit c.args.dividend 38 c.args.zeros (omega arith) small)

pub overflow_mul-dividend : goal.overflow_mul-dividend
overflow_mul-dividend c = let fits = product_fits c in omega arith

pub divide_half_up-requires-clause-dividend : goal.divide_half_up-requires-clause-dividend
divide_half_up-requires-clause-dividend c = product_fits c

pub returns-in-Some : goal.returns-in-Some
returns-in-Some c =
    let is = sym c.divide_by_groups.ensures ∙ c.in-Some.is in
    let large : c.args.divisor - c.in-Some.rest ≤ c.in-Some.rest = omega arith in
    c.below_limit-in-Some.ensures ∙ sym (quotient_up c.args.dividend c.args.zeros c.args.divisor c.in-Some.quotient c.in-Some.rest c.requires.some_divisor is large)

pub returns-in-Some-2 : goal.returns-in-Some-2
returns-in-Some-2 c =
    let is = sym c.divide_by_groups.ensures ∙ c.in-Some.is in
    let small : c.in-Some.rest < c.args.divisor - c.in-Some.rest = omega arith in
    sym (quotient_down c.args.dividend c.args.zeros c.args.divisor c.in-Some.quotient c.in-Some.rest c.requires.some_divisor is small)

pub returns-in-None : goal.returns-in-None
returns-in-None c =
    sym (quotient_none c.args.dividend c.args.zeros c.args.divisor c.requires.some_divisor (sym c.divide_by_groups.ensures ∙ c.in-None.is))
