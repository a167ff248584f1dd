use Rattle.std.proofs.Common.{sym, ap, ◌∙◌}
use Rattle.ds2_local.specs.CallParts.{all_lead_below}
use Rattle.ds2_local.proofs.PartLemmas.{no_effect_by_parts}
use Rattle.ds2_local.proofs.ReachLemmas.{some_tells}
use Rattle.ds2_local.proofs.cycles.effect_by_parts.Goals as goal

pub returns-then-all_lead_below : goal.returns-then-all_lead_below
returns-then-all_lead_below c = λ never tells joined here.
    let parts = c.args.known.now.parts.now in
    let lower = ap (λ n. all_lead_below parts n c.args.deeds.now) (sym c.number_at.ensures) ∙ sym c.all_lead_below.ensures ∙ c.if-all_lead_below.true in
    no_effect_by_parts c.args.count c.args.all.now parts c.args.number c.args.deeds.now (never c.if-known.true) lower

pub returns-then-is_some : goal.returns-then-is_some
returns-then-is_some c = λ never tells joined here.
    some_tells c.args.count c.args.all.now c.args.number c.args.deeds.now c.in_ok-shared.shared here (sym c.is_some.ensures ∙ c.if-is_some.true)
    (c.in_ok-shared.ensures c.args.count c.args.all.now (never c.if-known.true).within tells joined)
