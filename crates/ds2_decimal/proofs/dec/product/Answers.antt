use Rattle.std.proofs.Common.{◌≡◌, ◌^◌, ◌<◌, ℤ, ◌*ℤ◌, unsigned_abs, FitsSigned, Result, Ok, sym, ap, ◌∙◌, arith}
use Rattle.std.specs.Int.{w128}
use Rattle.std.proofs.lemmas.Nat.{mul-lt}
use Rattle.std.proofs.lemmas.Int.{to_z-of_z, unsigned_abs-mul, fits_signed_from_abs}
use Rattle.ds2_decimal.specs.Decimal.{Decimal}
use Rattle.ds2_decimal.specs.declared.dec.DecFault.{DecFault}
use Rattle.ds2_decimal.proofs.AlignedLemmas.{within_ok}
use Rattle.ds2_decimal.proofs.dec.product.Goals as goal

pub returns-then-unsigned_abs-lt-SHORT-2 : goal.returns-then-unsigned_abs-lt-SHORT-2
returns-then-unsigned_abs-lt-SHORT-2 c =
    let first : FitsSigned w128 c.args.first = c.ranges.first in
    let second : FitsSigned w128 c.args.second = c.ranges.second in
    let left : c.unsigned_abs.result ≡ unsigned_abs c.args.first = simp to_z-of_z at c.unsigned_abs.ensures.value in
    let right : c.unsigned_abs-then-unsigned_abs-lt-SHORT.result ≡ unsigned_abs c.args.second = simp to_z-of_z at c.unsigned_abs-then-unsigned_abs-lt-SHORT.ensures.value in
    let size : unsigned_abs (c.args.first *ℤ c.args.second) < 10 ^ 38 = omega (arith, unsigned_abs-mul c.args.first c.args.second, mul-lt (unsigned_abs c.args.first) (unsigned_abs c.args.second) (10 ^ 19) (10 ^ 19) (omega arith) (omega arith)) in
    let fits : FitsSigned w128 (c.args.first *ℤ c.args.second) = fits_signed_from_abs w128 (c.args.first *ℤ c.args.second) (omega arith) in
    let is : c.of.result ≡ c.args.first *ℤ c.args.second = simp to_z-of_z at c.of.ensures in
    let of : ℤ → Result Decimal DecFault = λ z. Ok (record { units = z; scale = c.args.scale }) in
    ap of is ∙ sym (within_ok 38 (c.args.first *ℤ c.args.second) c.args.scale size)
