use Rattle.std.proofs.Common.{◌∙◌, length, sym, subst}
use Rattle.ds2_local.specs.JudgedBodies.{AreCycleEffects}
use Rattle.ds2_local.proofs.JudgedLemmas.{holds_judged}
use Rattle.ds2_local.proofs.verdict.verdict_by_numbers.Goals as goal

pub returns : goal.returns
returns c = λ t numbered tells.
    let count = length c.args.numbers.locations.now in
    let cycles = subst (λ l. AreCycleEffects count l c.in_ok-cycles.cycles) (c.as_slice-2.ensures ∙ sym c.as_slice-3.ensures) c.in_ok-cycles.ensures in
    c.verdict_on.ensures t
    (holds_judged t _ numbered c.once_told_are_distinct.ensures c.callees_are_found.ensures c.reached_are_found.ensures
    (subst (λ l. AreCycleEffects count c.as_slice-3.result.now l) (sym c.as_slice-4.ensures) cycles) (c.as_slice-3.ensures ∙ c.in_ok-deeds.ensures)) tells
