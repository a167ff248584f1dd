use Rattle.std.proofs.Common.{◌≡◌, ◌<◌, ℤ, unsigned_abs, FitsSigned, Some, None, Result, Ok, sym, ap, ◌∙◌, arith, rules}
use Rattle.std.specs.Int.{w128}
use Rattle.std.proofs.lemmas.Int.{to_z-of_z, ints}
use Rattle.ds2_decimal.specs.Decimal.{Decimal}
use Rattle.ds2_decimal.specs.declared.dec.DecFault.{DecFault}
use Rattle.ds2_decimal.proofs.AlignedLemmas.{div_is}
use Rattle.ds2_decimal.proofs.dec.Dec.div.Goals as goal

pub returns-in-Some : goal.returns-in-Some
returns-in-Some c =
    let dividend : FitsSigned w128 c.get-2.result = search rules in
    let divisor : FitsSigned w128 c.get-3.result = search rules in
    let fits : FitsSigned w128 c.in-Some.units = search rules in
    let some : 0 < unsigned_abs c.other.inside.units = grind (arith, ints) in
    let quotient = simp (c.get-2.ensures, c.get-3.ensures) at (simp to_z-of_z at c.divide_signed.ensures) in
    let is : c.of.result ≡ c.in-Some.units = simp to_z-of_z at c.of.ensures in
    let of : ℤ → Result Decimal DecFault = λ z. Ok (record { units = z; scale = c.max-scale.result }) in
    let a : Decimal = record { units = c.self.inside.units; scale = c.self.inside.scale } in
    let b : Decimal = record { units = c.other.inside.units; scale = c.other.inside.scale } in
    rw (← c.self.view_is, ← c.other.view_is) (ap of is ∙ sym (div_is a b c.max-scale.result _ (Some c.in-Some.units) some (omega arith) (omega arith) (sym quotient ∙ c.in-Some.is)))

pub returns-in-None : goal.returns-in-None
returns-in-None c =
    let dividend : FitsSigned w128 c.get-2.result = search rules in
    let divisor : FitsSigned w128 c.get-3.result = search rules in
    let some : 0 < unsigned_abs c.other.inside.units = grind (arith, ints) in
    let quotient = simp (c.get-2.ensures, c.get-3.ensures) at (simp to_z-of_z at c.divide_signed.ensures) in
    let a : Decimal = record { units = c.self.inside.units; scale = c.self.inside.scale } in
    let b : Decimal = record { units = c.other.inside.units; scale = c.other.inside.scale } in
    rw (← c.self.view_is, ← c.other.view_is) (sym (div_is a b c.max-scale.result _ None some (omega arith) (omega arith) (sym quotient ∙ c.in-None.is)))
