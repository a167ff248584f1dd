use Rattle.std.proofs.Common.{◌≡◌}
use Rattle.std.proofs.lemmas.Result.{IfOk-weaker}
use Rattle.ds2_local.specs.CallParts.{TellsCycle}
use Rattle.ds2_local.specs.JudgedBodies.{cycle_effect}
use Rattle.ds2_local.proofs.ReachLemmas.{found_tells}
use Rattle.ds2_local.proofs.cycles.head_effect.Goals as goal

pub returns : goal.returns
returns c = λ here.
    let count = c.args.count in
    let all = c.args.all.now in
    let number = c.args.number in
    let deeds = c.args.deeds.now in
    IfOk-weaker c.cycle_effect.result (λ effect. effect ≡ cycle_effect count all number deeds) (λ effect. TellsCycle count all number effect) (λ effect is. found_tells count all number deeds effect here is) c.cycle_effect.ensures
