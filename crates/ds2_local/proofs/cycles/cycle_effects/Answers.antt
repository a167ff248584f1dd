use Rattle.std.proofs.Common.{◌≡◌, ◌<◌, ◌+◌, true, Some, length, get_or, refl, sym, ap, ◌∙◌, subst}
use Rattle.std.specs.Prelude.{slice_get}
use Rattle.std.proofs.lemmas.Option.{slice_get_read}
use Rattle.ds2_local.specs.CallParts.{AreJoined, NeverRises, TellCycles}
use Rattle.ds2_local.specs.JudgedBodies.{cycle_effect}
use Rattle.ds2_local.proofs.SettleLemmas.{more_cycle_effects}
use Rattle.ds2_local.proofs.cycles.cycle_effects.Goals as goal

pub methods-preserved : goal.methods-preserved
methods-preserved c =
    let before = c.methods.invariant in
    let all = c.args.all.now in
    let number = c.methods.number in
    let deeds = c.deeds-item.result in
    let lt : number < length all = subst (λ k. k < length all) (sym before.number) c.methods-test.true in
    let item = c.deeds-item.is ∙ ap (λ k. get_or all k c.deeds-item.result) (sym before.number) in
    let here : slice_get all number ≡ Some deeds = slice_get_read all (length all) number deeds refl lt item in
    let never : c.never_rises.result ≡ true → NeverRises c.as_slice.result.now all = λ ranked. subst (λ l. NeverRises l all) (c.as_slice-2.ensures ∙ sym c.as_slice.ensures) (c.never_rises.ensures ranked) in
    let tell = subst (λ l. TellCycles c.args.count all l) (sym c.as_slice-3.ensures) c.in_ok-heads.ensures in
    let joined = subst (λ l. AreJoined all l) (sym c.as_slice-4.ensures) c.in_ok-marks.ensures in
    let is = c.in_ok-effect.ensures never tell joined (here ∙ ap (λ l. Some l) (sym c.as_slice-in-methods.ensures)) ∙ ap (λ l. cycle_effect c.args.count all number l) c.as_slice-in-methods.ensures in
    record {
      number = ap (λ k. k + 1) before.number;
      has = more_cycle_effects c.args.count all c.methods.effects c.push.new.self number deeds c.in_ok-effect.effect here is c.in_ok-push.ensures.ok before.has;
    }
