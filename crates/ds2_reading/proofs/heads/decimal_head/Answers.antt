use Rattle.std.proofs.Common.{◌≡◌, true, false, refl, sym, ap, ◌∙◌, arith, ℤ}
use Rattle.std.specs.Ordering.{is_eq}
use Rattle.std.proofs.lemmas.Int.{ints}
use Rattle.ds2_decimal.specs.Arithmetic.{compare}
use Rattle.ds2_decimal.specs.Decimal.{Decimal}
use Rattle.ds2_reading.proofs.DecimalHeads.{head_before, head_behind, head_whole, head_above}
use Rattle.ds2_reading.proofs.heads.decimal_head.Goals as goal

pub returns-then-units : goal.returns-then-units
returns-then-units c =
    head_before c.args.d (omega (arith, c.scale-scale.ensures.value, c.scale-scale.ensures.bound)) c.units-units.result _ (c.units-units.ensures.value ∙ ap (λ (x : Decimal). x.units) c.floor-whole.ensures) (omega (arith, ints)) refl

pub returns-then-units-2 : goal.returns-then-units-2
returns-then-units-2 c =
    head_behind c.args.d (omega (arith, c.scale-scale.ensures.value, c.scale-scale.ensures.bound)) c.units-units.result _ (c.units-units.ensures.value ∙ ap (λ (x : Decimal). x.units) c.floor-whole.ensures) (omega (arith, ints)) refl

pub returns-then-is_eq : goal.returns-then-is_eq
returns-then-is_eq c =
    let d = c.args.d in
    let below = c.units-units.ensures.value ∙ ap (λ (x : Decimal). x.units) c.floor-whole.ensures in
    let same : is_eq (compare d (record { units = c.units-units.result; scale = 0 })) ≡ true =
    ap (λ (v : ℤ). is_eq (compare d (record { units = v; scale = 0 }))) below
    ∙ ap (λ (f : Decimal). is_eq (compare d f)) (sym c.floor-whole.ensures)
    ∙ ap is_eq (sym c.compare.ensures)
    ∙ sym c.is_eq.ensures
    ∙ c.if-is_eq.true in
    head_whole d (omega (arith, c.scale-scale.ensures.value, c.scale-scale.ensures.bound)) c.units-units.result _ below (omega (arith, ints)) (omega (arith, ints)) same (omega (arith, ints))

pub returns-else-is_eq : goal.returns-else-is_eq
returns-else-is_eq c =
    let d = c.args.d in
    let below = c.units-units.ensures.value ∙ ap (λ (x : Decimal). x.units) c.floor-whole.ensures in
    let other : is_eq (compare d (record { units = c.units-units.result; scale = 0 })) ≡ false =
    ap (λ (v : ℤ). is_eq (compare d (record { units = v; scale = 0 }))) below
    ∙ ap (λ (f : Decimal). is_eq (compare d f)) (sym c.floor-whole.ensures)
    ∙ ap is_eq (sym c.compare.ensures)
    ∙ sym c.is_eq.ensures
    ∙ c.if-is_eq.false in
    head_above d (omega (arith, c.scale-scale.ensures.value, c.scale-scale.ensures.bound)) c.units-units.result _ below (omega (arith, ints)) (omega (arith, ints)) other (omega (arith, ints))
