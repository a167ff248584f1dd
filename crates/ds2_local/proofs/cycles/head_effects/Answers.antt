use Rattle.std.proofs.Common.{◌≡◌, ◌<◌, ◌+◌, Some, length, get_or, refl, sym, ap, ◌∙◌, subst}
use Rattle.std.specs.Prelude.{slice_get}
use Rattle.std.proofs.lemmas.Option.{slice_get_read}
use Rattle.ds2_local.proofs.ReachLemmas.{no_cycles, one_cycle_more}
use Rattle.ds2_local.proofs.cycles.head_effects.Goals as goal

pub methods-init : goal.methods-init
methods-init c = record { number = refl; has = no_cycles c.args.count c.args.all.now c.new-effects.result c.new-effects.ensures }

pub methods-preserved : goal.methods-preserved
methods-preserved c =
    let before = c.methods.invariant in
    let all = c.args.all.now in
    let number = c.methods.number in
    let deeds = c.deeds-item.result in
    let lt : number < length all = subst (λ k. k < length all) (sym before.number) c.methods-test.true in
    let item = c.deeds-item.is ∙ ap (λ k. get_or all k c.deeds-item.result) (sym before.number) in
    let here : slice_get all number ≡ Some deeds = slice_get_read all (length all) number deeds refl lt item in
    record {
      number = ap (λ k. k + 1) before.number;
      has = one_cycle_more c.args.count all c.methods.effects c.push.new.self number c.in_ok-effect.effect (c.in_ok-effect.ensures (here ∙ ap (λ l. Some l) (sym c.as_slice.ensures))) c.in_ok-push.ensures.ok before.has;
    }

pub returns : goal.returns
returns c = c.methods.invariant.has.tell
