use Rattle.std.proofs.Common.{ℕ, ◌+◌, ◌-◌, ◌*◌, ◌^◌, ◌<◌, ◌≤◌, sym, subst, arith, rules}
use Rattle.ds2_decimal.proofs.TenPowers.{pow-ten_le}
use Rattle.ds2_decimal.proofs.QuotientLemmas.{HasDivided, HasDivided-more, HasDivided-passes, answer_none}
use Rattle.ds2_decimal.proofs.quotient.divide_by_groups.Goals as goal

pub returns-then-quotient-power_of_ten : goal.returns-then-quotient-power_of_ten
returns-then-quotient-power_of_ten c =
    let k : ℕ = c.min-count.result in
    let few : k ≤ c.loop-left.left = omega arith in
    let bound : k ≤ 38 = omega arith in
    let large : 10 ^ (38 - k) ≤ c.loop-left.quotient = search rules in
    sym (answer_none c.args.dividend c.args.zeros c.args.divisor (HasDivided-passes c.args.dividend c.args.zeros c.args.divisor c.loop-left.left k c.loop-left.quotient c.loop-left.rest c.requires.some_divisor few bound c.loop-left.invariant large))

next : (c : goal.After-power_of_ten-in-loop-left) → HasDivided c.args.dividend c.args.zeros c.args.divisor (c.loop-left.left - c.min-count.result) (c.loop-left.quotient * c.power_of_ten-in-loop-left.result + c.divide_group-digits.result.0) c.divide_group-digits.result.1
next c =
    let k : ℕ = c.min-count.result in
    let few : k ≤ c.loop-left.left = omega arith in
    let bound : k ≤ 38 = omega arith in
    let room : c.loop-left.quotient < 10 ^ (38 - k) = search rules in
    let P : ℕ → Type 0 = λ p. HasDivided c.args.dividend c.args.zeros c.args.divisor (c.loop-left.left - k) (c.loop-left.quotient * p + c.divide_group-digits.result.0) c.divide_group-digits.result.1 in
    subst P (sym c.power_of_ten-in-loop-left.ensures.value) (HasDivided-more c.args.dividend c.args.zeros c.args.divisor c.loop-left.left k c.loop-left.quotient c.loop-left.rest c.divide_group-digits.result.0 c.divide_group-digits.result.1 c.requires.some_divisor few bound c.loop-left.invariant room c.divide_group-digits.ensures.digits c.divide_group-digits.ensures.rest)

pub overflow_mul-quotient : goal.overflow_mul-quotient
overflow_mul-quotient c = let after = next c in omega (arith, after.digits)

pub overflow_add-quotient : goal.overflow_add-quotient
overflow_add-quotient c = let after = next c in omega (arith, after.digits)

pub loop-left-preserved : goal.loop-left-preserved
loop-left-preserved c = next c

pub divide_group-digits-requires-clause-long_divisor :
    goal.divide_group-digits-requires-clause-long_divisor
divide_group-digits-requires-clause-long_divisor c = λ long.
    let whole : 10 ^ (2 * c.group_digits-group.result) ≤ c.args.divisor = c.group_digits-group.ensures.long_divisor long in
    let fewer : 2 * c.min-count.result ≤ 2 * c.group_digits-group.result = omega arith in
    omega (arith, pow-ten_le (2 * c.min-count.result) (2 * c.group_digits-group.result) fewer)
