use Rattle.std.proofs.Common.{◌≡◌, ◌<◌, length, sym, ap, ◌∙◌, subst, arith}
use Rattle.std.specs.List.{list_all}
use Rattle.ds2_local.specs.SettledEffects.{CoversCycles, IsSettledTo, Settles}
use Rattle.ds2_local.proofs.SettleLemmas.{all_on, all_settle, cycles_covered, cycles_settle}
use Rattle.ds2_local.proofs.settled.call_effects.Goals as goal

pub returns-then-are_all_on : goal.returns-then-are_all_on
returns-then-are_all_on c = λ t holds.
    let b = c.args.bodies.now in
    let known = c.args.known.now in
    let effects = c.in_ok-effects.effects in
    let is = sym c.in_ok-settled.ensures in
    let covers = subst (λ l. CoversCycles b.cycles.now l) is (cycles_covered b.cycles.now) in
    let first : IsSettledTo t b known c.in_ok-settled.settled effects 0 = record {
      as_many = c.in_ok-effects.ensures.as_many ∙ sym covers.as_many;
      covers = covers;
      settles = subst (λ l. Settles t b known l effects 0) is (cycles_settle t b holds known effects c.in_ok-effects.ensures);
    } in
    let done = c.in_ok-settle_in_order.ensures t holds first in
    let long = done.covers.as_many ∙ holds.cycles.as_many in
    let on = ap (λ l. list_all (λ bit. bit) l) (sym c.as_slice.ensures) ∙ sym c.are_all_on.ensures ∙ c.if-are_all_on.true in
    all_settle t b holds known c.settle_in_order.new.settled c.settle_in_order.new.effects (length b.deeds.now) (omega arith) (done.as_many ∙ long)
    (λ k lt. all_on c.settle_in_order.new.settled on k (subst (λ l. k < l) (sym long) lt)) done.settles
