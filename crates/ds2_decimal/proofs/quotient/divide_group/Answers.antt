use Rattle.std.proofs.Common.{ℕ, ◌*◌, ◌^◌, ◌≤◌, sym, subst, arith}
use Rattle.ds2_decimal.proofs.QuotientLemmas.{square-pow}
use Rattle.ds2_decimal.proofs.quotient.divide_group.Goals as goal

pub divide_estimated-requires-clause-square : goal.divide_estimated-requires-clause-square
divide_estimated-requires-clause-square c =
    let P : ℕ → Type 0 = λ b. b * b ≤ c.args.divisor in
    let fits : 10 ^ (2 * c.args.count) ≤ c.args.divisor = c.requires.long_divisor (omega arith) in
    subst P (sym c.power_of_ten-base.ensures.value) (omega (arith, square-pow c.args.count))
