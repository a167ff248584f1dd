use Rattle.std.proofs.Common.{ℤ, ◌+ℤ◌, FitsSigned, sym, ◌∙◌, rules}
use Rattle.std.specs.Int.{w128}
use Rattle.std.proofs.lemmas.Int.{to_z-of_z}
use Rattle.ds2_decimal.specs.Decimal.{Decimal}
use Rattle.ds2_decimal.proofs.AlignedLemmas.{on_aligned-same}
use Rattle.ds2_decimal.proofs.dec.Dec.add.Goals as goal

pub returns-then-self-other : goal.returns-then-self-other
returns-then-self-other c =
    let first : FitsSigned w128 c.get.result = search rules in
    let second : FitsSigned w128 c.get-then-self-other.result = search rules in
    let a : Decimal = record { units = c.self.inside.units; scale = c.self.inside.scale } in
    let b : Decimal = record { units = c.other.inside.units; scale = c.other.inside.scale } in
    let summed = simp (c.get.ensures, c.get-then-self-other.ensures) at (simp to_z-of_z at c.sum.ensures) in
    rw (← c.self.view_is, ← c.other.view_is) (summed ∙ sym (on_aligned-same (λ (x y : ℤ). x +ℤ y) a b c.self.invariant.0 c.other.invariant.0 c.if-self-other.true))
