use Rattle.std.proofs.Common.{◌≡◌, ◌<◌, ◌≤◌, ◌+◌, suc, length, sym, ap, ◌∙◌, subst, add-one, arith}
use Rattle.std.specs.List.{list_all}
use Rattle.ds2_local.specs.SettledEffects.{CoversCycles, IsRound, Settles}
use Rattle.ds2_local.proofs.SettleLemmas.{IsDeep, all_found, all_on, all_settle, cycles_covered, cycles_settle, methods_here, none_deep, one_deeper, still_covered}
use Rattle.ds2_local.proofs.settled.effects_by_rounds.Goals as goal

pub rounds-init : goal.rounds-init
rounds-init c = λ t holds.
    let b = c.args.bodies.now in
    let known = c.args.known.now in
    let effects = c.in_ok-effects.effects in
    let is = sym c.in_ok-settled.ensures in
    record {
      as_many = c.in_ok-effects.ensures.as_many ∙ holds.cycles.as_many;
      covers = subst (λ l. CoversCycles b.cycles.now l) is (cycles_covered b.cycles.now);
      settles = subst (λ l. Settles t b known l effects 0) is (cycles_settle t b holds known effects c.in_ok-effects.ensures);
      deep = subst (λ l. IsDeep b.deeds.now l 0) is (none_deep (length b.numbers.locations.now) b.deeds.now b.cycles.now holds.cycles);
    }

pub returns-then-are_all_on : goal.returns-then-are_all_on
returns-then-are_all_on c = λ t holds.
    let b = c.args.bodies.now in
    let before = c.rounds.invariant t holds in
    let test = c.rounds-test.true in
    let le : c.rounds.counter ≤ length b.deeds.now = omega (arith, test) in
    let long = before.covers.as_many ∙ holds.cycles.as_many in
    let on = ap (λ l. list_all (λ bit. bit) l) (sym c.as_slice.ensures) ∙ sym c.are_all_on.ensures ∙ c.if-are_all_on.true in
    all_settle t b holds c.args.known.now c.rounds.settled c.rounds.effects c.rounds.counter le before.as_many (λ k lt. all_on c.rounds.settled on k (subst (λ l. k < l) (sym long) lt)) before.settles

pub rounds-preserved : goal.rounds-preserved
rounds-preserved c = λ t holds.
    let b = c.args.bodies.now in
    let known = c.args.known.now in
    let next = c.in_ok-settled-2.settled in
    let depth = c.rounds.counter in
    let deeper = sym (add-one depth) in
    let before = c.rounds.invariant t holds in
    let is = c.as_slice-in-rounds.ensures in
    let long = before.covers.as_many ∙ holds.cycles.as_many in
    let round = subst (λ l. IsRound b.deeds.now l next) is (c.in_ok-settled-2.ensures.round (ap (λ l. length l) is ∙ long) (methods_here t b holds known)) in
    record {
      as_many = c.in_ok-settled-2.ensures.count ∙ before.as_many;
      covers = still_covered b.deeds.now b.cycles.now c.rounds.settled next long round before.covers;
      settles = subst (λ d. Settles t b known next c.settle_round.new.effects d) deeper
          (c.in_ok-settled-2.ensures.told t depth holds (subst (λ l. CoversCycles b.cycles.now l) (sym is) before.covers) (before.as_many ∙ sym (ap (λ l. length l) is ∙ long))
          (subst (λ l. Settles t b known l c.rounds.effects depth) (sym is) before.settles));
      deep = subst (λ d. IsDeep b.deeds.now next d) deeper (one_deeper b.deeds.now c.rounds.settled next depth long round before.deep);
    }

pub returns : goal.returns
returns c = λ t holds.
    let b = c.args.bodies.now in
    let before = c.rounds.invariant t holds in
    let over = c.rounds-test.false in
    let few = c.rounds.auto.counter-end in
    let end' : c.rounds.counter ≡ length b.deeds.now = omega (arith, over, few) in
    let le : c.rounds.counter ≤ length b.deeds.now = omega (arith, end') in
    let long = before.covers.as_many ∙ holds.cycles.as_many in
    all_settle t b holds c.args.known.now c.rounds.settled c.rounds.effects c.rounds.counter le before.as_many
    (all_found b.deeds.now c.rounds.settled long (subst (λ d. IsDeep b.deeds.now c.rounds.settled d) end' before.deep)) before.settles
