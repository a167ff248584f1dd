use Rattle.std.proofs.Common.{◌-◌, ◌≤◌, ℤ, FitsSigned, sym, ap, ◌∙◌, arith, rules}
use Rattle.std.specs.Int.{w128}
use Rattle.std.proofs.lemmas.Int.{to_z-of_z}
use Rattle.ds2_decimal.specs.Steps.{raised}
use Rattle.ds2_decimal.proofs.AlignedLemmas.{aligned_first, aligned_second}
use Rattle.ds2_decimal.proofs.dec.aligned.Goals as goal

pub returns-in_ok-raise : goal.returns-in_ok-raise
returns-in_ok-raise c =
    let first : FitsSigned w128 c.get.result = search rules in
    let second : FitsSigned w128 c.get-then-first-second.result = search rules in
    let brought : FitsSigned w128 c.in_ok-raise.field-0 = search rules in
    let is = ap (λ (z : ℤ). raised z (c.second.inside.scale - c.first.inside.scale)) (sym c.get.ensures) ∙ sym (simp to_z-of_z at c.raise.ensures) ∙ c.in_ok-raise.was in
    let below : c.first.inside.scale ≤ c.second.inside.scale = omega arith in
    rw (to_z-of_z w128 c.in_ok-raise.field-0 brought, to_z-of_z w128 c.get-then-first-second.result second, c.get-then-first-second.ensures, ← c.first.view_is, ← c.second.view_is)
    (sym (aligned_first _ _ c.in_ok-raise.field-0 below c.second.invariant.0 is))

pub returns-in_ok-raise-2 : goal.returns-in_ok-raise-2
returns-in_ok-raise-2 c =
    let first : FitsSigned w128 c.get-else-first-second.result = search rules in
    let second : FitsSigned w128 c.get-else-first-second-2.result = search rules in
    let brought : FitsSigned w128 c.in_ok-raise-2.field-0 = search rules in
    let is = ap (λ (z : ℤ). raised z (c.first.inside.scale - c.second.inside.scale)) (sym c.get-else-first-second-2.ensures) ∙ sym (simp to_z-of_z at c.raise-else-first-second.ensures) ∙ c.in_ok-raise-2.was in
    let below : c.second.inside.scale ≤ c.first.inside.scale = omega arith in
    rw (to_z-of_z w128 c.in_ok-raise-2.field-0 brought, to_z-of_z w128 c.get-else-first-second.result first, c.get-else-first-second.ensures, ← c.first.view_is, ← c.second.view_is)
    (sym (aligned_second _ _ c.in_ok-raise-2.field-0 below c.first.invariant.0 is))
