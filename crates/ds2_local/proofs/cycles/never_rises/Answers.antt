use Rattle.std.proofs.Common.{◌≡◌, ◌<◌, ◌+◌, Some, length, get_or, refl, sym, ap, ◌∙◌, subst, arith}
use Rattle.std.specs.Prelude.{slice_get}
use Rattle.std.proofs.lemmas.Option.{slice_get_read}
use Rattle.ds2_local.specs.CallParts.{all_lead_below, number_at}
use Rattle.ds2_local.proofs.PartLemmas.{all_rise_not, one_rises_not}
use Rattle.ds2_local.proofs.cycles.never_rises.Goals as goal

pub methods-preserved : goal.methods-preserved
methods-preserved c =
    let before = c.methods.invariant in
    let parts = c.args.parts.now in
    let all = c.args.all.now in
    let number = c.methods.number in
    let deeds = c.deeds-item.result in
    let lt : number < length all = subst (λ k. k < length all) (sym before.number) c.methods-test.true in
    let item = c.deeds-item.is ∙ ap (λ k. get_or all k c.deeds-item.result) (sym before.number) in
    let here : slice_get all number ≡ Some deeds = slice_get_read all (length all) number deeds refl lt item in
    let lower = ap (λ l. all_lead_below parts (number_at parts number + 1) l) (sym c.as_slice.ensures) ∙ c.never_rises_from.ensures c.if-not-never_rises_from.false in
    record {
      number = ap (λ k. k + 1) before.number;
      to = one_rises_not parts all number deeds here lower before.to;
    }

pub returns : goal.returns
returns c = λ is.
    let all = c.args.all.now in
    let over = c.methods-test.false in
    let few = c.methods.auto.deeds-index-end in
    let end' : c.methods.deeds-index ≡ length all = omega (arith, over, few) in
    let long : length c.args.parts.now ≡ length all = omega (arith, c.if-parts-all.false) in
    all_rise_not c.args.parts.now all c.methods.number long (c.methods.invariant.number ∙ end') c.methods.invariant.to
