use Rattle.std.proofs.Common.{◌-◌, ◌^◌, ◌<◌, ◌≤◌, ℤ, pos, ◌*ℤ◌, unsigned_abs, FitsSigned, sym, subst, rules}
use Rattle.std.specs.Int.{w128}
use Rattle.std.proofs.lemmas.Int.{to_z-of_z}
use Rattle.ds2_decimal.proofs.UnitsLemmas.{raised_small, raised_large, raised_fits, product_read}
use Rattle.ds2_decimal.proofs.units.raise.Goals as goal

is_small : (c : goal.After-power_of_ten-then-unsigned_abs-power_of_ten) → unsigned_abs c.args.units < 10 ^ (38 - c.args.zeros)
is_small c = search rules

fits : (c : goal.After-power_of_ten-then-unsigned_abs-power_of_ten) → FitsSigned w128 (c.args.units *ℤ pos (10 ^ c.args.zeros))
fits c = raised_fits c.args.units c.args.zeros c.requires.zeros_bound (is_small c)

pub overflow_mul-result : goal.overflow_mul-result
overflow_mul-result c =
    let read = product_read c.args.units c.args.zeros c.power_of_ten-then-unsigned_abs-power_of_ten.result c.ranges.units c.requires.zeros_bound c.power_of_ten-then-unsigned_abs-power_of_ten.ensures.value in
    let P : ℤ → Type 0 = λ z. FitsSigned w128 z in
    subst P (sym read) (fits c)

pub returns-then-unsigned_abs-power_of_ten : goal.returns-then-unsigned_abs-power_of_ten
returns-then-unsigned_abs-power_of_ten c =
    let read = product_read c.args.units c.args.zeros c.power_of_ten-then-unsigned_abs-power_of_ten.result c.ranges.units c.requires.zeros_bound c.power_of_ten-then-unsigned_abs-power_of_ten.ensures.value in
    rw (read, to_z-of_z w128 _ (fits c)) (sym (raised_small c.args.units c.args.zeros c.requires.zeros_bound (is_small c)))

pub returns-else-unsigned_abs-power_of_ten : goal.returns-else-unsigned_abs-power_of_ten
returns-else-unsigned_abs-power_of_ten c =
    let is_large : 10 ^ (38 - c.args.zeros) ≤ unsigned_abs c.args.units = search rules in
    sym (raised_large c.args.units c.args.zeros c.requires.zeros_bound is_large)
