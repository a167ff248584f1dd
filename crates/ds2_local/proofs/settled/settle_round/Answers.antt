use Rattle.std.proofs.Common.{◌≡◌, ◌<◌, ◌+◌, suc, Some, length, get_or, option_map, refl, sym, ap, ◌∙◌, subst, arith, [], ◌∷◌, ◌++◌}
use Rattle.std.specs.Prelude.{slice_get}
use Rattle.std.proofs.lemmas.Option.{slice_get-map, slice_get_read}
use Rattle.ds2_deeds.specs.NamedMethods.{method_of_name, methods_named}
use Rattle.ds2_local.specs.SettledEffects.{Settles}
use Rattle.ds2_local.proofs.SettleLemmas.{HasGone, all_gone, found_long, next_settle, none_gone, none_settle, old_settle, one_gone}
use Rattle.ds2_local.proofs.settled.settle_round.Goals as goal

pub methods-init : goal.methods-init
methods-init c = record {
  number = refl;
  as_many = refl;
  gone = subst (λ l. HasGone c.args.bodies.now.deeds.now c.args.settled.now l 0) (sym c.new-next.ensures) (none_gone c.args.bodies.now.deeds.now c.args.settled.now);
  old = λ t depth holds covers many settles. settles;
  new = λ t depth holds covers many settles.
      subst (λ l. Settles t c.args.bodies.now c.args.known.now l c.args.effects.now (suc depth)) (sym c.new-next.ensures) (none_settle t c.args.bodies.now holds c.args.known.now c.args.effects.now (suc depth));
}

pub methods-preserved : goal.methods-preserved
methods-preserved c =
    let b = c.args.bodies.now in
    let known = c.args.known.now in
    let settled = c.args.settled.now in
    let number = c.methods.number in
    let found = c.in_ok-found.found in
    let before = c.methods.invariant in
    let pushed = c.in_ok-push.ensures.ok ∙ ap (λ x. c.methods.next ++ x ∷ []) c.is_found.ensures in
    let lt : number < length b.numbers.methods.now = subst (λ k. k < length b.numbers.methods.now) (sym before.number) c.methods-test.true in
    let item = c.method-item.is ∙ ap (λ k. get_or b.numbers.methods.now k c.method-item.result) (sym before.number) in
    let here : slice_get (methods_named b.numbers.methods.now) number ≡ Some (method_of_name c.method-item.result) =
    slice_get-map method_of_name b.numbers.methods.now number ∙ ap (λ o. option_map method_of_name o) (slice_get_read b.numbers.methods.now (length b.numbers.methods.now) number c.method-item.result refl lt item) in
    record {
      number = ap (λ k. k + 1) before.number;
      as_many = ap (λ l. length l) c.put_found.ensures ∙ found_long c.methods.effects number found ∙ before.as_many;
      gone = one_gone b.deeds.now settled c.methods.next c.push.new.self number found c.in_ok-found.ensures.found pushed before.gone;
      old = λ t depth holds covers many settles.
          subst (λ l. Settles t b known settled l depth) (sym c.put_found.ensures)
          (old_settle t b holds known settled c.methods.effects depth number found c.in_ok-found.ensures.found (before.old t depth holds covers many settles));
      new = λ t depth holds covers many settles.
          let old = before.old t depth holds covers many settles in
          subst (λ l. Settles t b known c.push.new.self l (suc depth)) (sym c.put_found.ensures)
          (next_settle t b holds known settled c.methods.next c.push.new.self c.methods.effects depth number found (method_of_name c.method-item.result) before.gone.count here c.in_ok-found.ensures.found
          (λ is. c.in_ok-found.ensures.tells t depth holds covers (ap (λ l. length l) c.as_slice.ensures ∙ before.as_many ∙ many) is
          (subst (λ l. Settles t b known settled l depth) (sym c.as_slice.ensures) old))
          pushed old (before.new t depth holds covers many settles));
    }

pub returns-clause-round : goal.returns-clause-round
returns-clause-round c = λ long many.
    let over = c.methods-test.false in
    let few = c.methods.auto.method-index-end in
    let end' : c.methods.method-index ≡ length c.args.bodies.now.numbers.methods.now = omega (arith, over, few) in
    all_gone c.args.bodies.now.deeds.now c.args.settled.now c.methods.next c.methods.number (c.methods.invariant.number ∙ end' ∙ many) long c.methods.invariant.gone
