use Rattle.std.proofs.Common.{◌≤◌, FitsSigned, sym, ap, ◌∙◌, arith, rules}
use Rattle.std.specs.Int.{w128}
use Rattle.std.specs.Ordering.{ordering_reverse}
use Rattle.std.proofs.lemmas.Int.{to_z-of_z}
use Rattle.ds2_decimal.proofs.AlignedLemmas.{compare-same, compare_first, compare_second}
use Rattle.ds2_decimal.proofs.dec.Dec.compare.Goals as goal

pub returns-then-self-other : goal.returns-then-self-other
returns-then-self-other c =
    let first : FitsSigned w128 c.get-first.result = search rules in
    let second : FitsSigned w128 c.get-second.result = search rules in
    let compared = simp (c.get-first.ensures, c.get-second.ensures) at (simp to_z-of_z at c.cmp.ensures) in
    rw (← c.self.view_is, ← c.other.view_is) (compared ∙ sym (compare-same _ _ c.if-self-other.true c.other.invariant.1))

pub returns-then-self-other-2 : goal.returns-then-self-other-2
returns-then-self-other-2 c =
    let first : FitsSigned w128 c.get-first.result = search rules in
    let second : FitsSigned w128 c.get-second.result = search rules in
    let below : c.self.inside.scale ≤ c.other.inside.scale = omega arith in
    let raised = simp (c.get-first.ensures, c.get-second.ensures) at (simp to_z-of_z at c.compare_raised.ensures) in
    rw (← c.self.view_is, ← c.other.view_is) (raised ∙ sym (compare_second _ _ below c.other.invariant.1))

pub returns-else-self-other-2 : goal.returns-else-self-other-2
returns-else-self-other-2 c =
    let first : FitsSigned w128 c.get-first.result = search rules in
    let second : FitsSigned w128 c.get-second.result = search rules in
    let raised = simp (c.get-first.ensures, c.get-second.ensures) at (simp to_z-of_z at c.compare_raised-else-self-other-2.ensures) in
    rw (← c.self.view_is, ← c.other.view_is) (c.reverse.ensures ∙ ap ordering_reverse raised ∙ sym (compare_first _ _ c.if-self-other-2.false c.self.invariant.1))
