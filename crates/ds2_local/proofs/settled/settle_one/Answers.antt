use Rattle.std.proofs.Common.{◌≡◌, Some, length, option_map, refl, sym, ap, ◌∙◌, subst, suc}
use Rattle.std.specs.Prelude.{slice_get}
use Rattle.std.proofs.lemmas.Option.{slice_get-map, slice_get_read}
use Rattle.ds2_deeds.specs.NamedMethods.{method_of_name, methods_named}
use Rattle.ds2_local.specs.SettledEffects.{with_one_settled, CoversCycles, IsSettledTo, Settles}
use Rattle.ds2_local.proofs.SettleLemmas.{one_settled, still_settle}
use Rattle.ds2_local.proofs.settled.settle_one.Goals as goal

pub returns-in-None : goal.returns-in-None
returns-in-None c = λ t depth holds before. still_settle t c.args.bodies.now holds c.args.known.now c.args.settled.now c.args.effects.now depth before

pub returns-in_ok-found-in-Some : goal.returns-in_ok-found-in-Some
returns-in_ok-found-in-Some c = λ t depth holds before.
    let b = c.args.bodies.now in
    let known = c.args.known.now in
    let number = c.args.number in
    let method = c.in-Some.method.now in
    let found = c.in_ok-found-in-Some.found in
    let lookup = c.in-Some.ensures.lookup in
    let here : slice_get (methods_named b.numbers.methods.now) number ≡ Some (method_of_name method) =
    slice_get-map method_of_name b.numbers.methods.now number ∙ ap (λ o. option_map method_of_name o) (slice_get_read b.numbers.methods.now (length b.numbers.methods.now) number method refl lookup.3.0 lookup.1) in
    let covers = subst (λ l. CoversCycles b.cycles.now l) (sym c.as_slice-in-Some.ensures) before.covers in
    let many = ap (λ l. length l) c.as_slice.ensures ∙ before.as_many ∙ sym (ap (λ l. length l) c.as_slice-in-Some.ensures) in
    let settles = subst (λ l. Settles t b known l c.as_slice.result.now depth) (sym c.as_slice-in-Some.ensures) (subst (λ l. Settles t b known c.args.settled.now l depth) (sym c.as_slice.ensures) before.settles) in
    subst (λ l. IsSettledTo t b known l c.put_found.new.effects (suc depth)) (sym c.mark_found.ensures)
    (subst (λ l. IsSettledTo t b known (with_one_settled c.args.settled.now number found) l (suc depth)) (sym c.put_found.ensures)
    (one_settled t b holds known c.args.settled.now c.args.effects.now depth number found (method_of_name method) here (λ is. c.in_ok-found-in-Some.ensures.tells t depth holds covers many is settles) before))
