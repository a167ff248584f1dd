use Rattle.std.proofs.Common.{◌≡◌, Some, length, refl, arith}
use Rattle.std.specs.Prelude.{slice_get}
use Rattle.std.proofs.lemmas.Option.{slice_get_read}
use Rattle.ds2_local.proofs.SettleLemmas.{all_first_effects, more_first_effects}
use Rattle.ds2_local.proofs.settled.first_effects.Goals as goal

pub methods-preserved : goal.methods-preserved
methods-preserved c =
    let cycles = c.args.cycles.now in
    let number = c.methods.cycle-index in
    let cycle = c.cycle-item.result in
    let here : slice_get cycles number ≡ Some cycle = slice_get_read cycles (length cycles) number cycle refl c.methods-test.true c.cycle-item.is in
    more_first_effects cycles c.methods.effects c.push.new.self number cycle c.in_ok-first_effect.field-0 here c.in_ok-first_effect.ensures c.in_ok-push.ensures.ok c.methods.invariant

pub returns : goal.returns
returns c =
    let over = c.methods-test.false in
    let few = c.methods.auto.cycle-index-end in
    let end' : c.methods.cycle-index ≡ length c.args.cycles.now = omega (arith, over, few) in
    all_first_effects c.args.cycles.now c.methods.effects c.methods.cycle-index end' c.methods.invariant
