use Rattle.std.proofs.Common.{sym, ap, ◌∙◌}
use Rattle.std.specs.List.{list_any}
use Rattle.ds2_deeds.specs.NamedMethods.{method_of_name}
use Rattle.ds2_local.specs.SettledEffects.{waits_for}
use Rattle.ds2_local.proofs.SettleLemmas.{left_off, plain_found}
use Rattle.ds2_local.proofs.settled.found_effect.Goals as goal

pub returns-clause-tells : goal.returns-clause-tells
returns-clause-tells c = λ t depth holds covers many is settles.
    let b = c.args.bodies.now in
    let settled = c.args.settled.now in
    let m = method_of_name c.args.method in
    let off = left_off t b holds c.args.known.now settled m c.args.number is covers (sym c.is_on.ensures ∙ c.if-is_on.false) in
    let waits = ap (λ l. list_any (waits_for settled) l) (sym c.deeds_of.ensures) ∙ sym c.waits.ensures ∙ c.if-waits.false in
    plain_found t b holds c.args.known.now settled c.args.effects.now depth m c.args.number c.in_ok-plain_effect.field-0 is (covers.as_many ∙ holds.cycles.as_many) many off waits settles
    (c.in_ok-plain_effect.ensures t holds)
