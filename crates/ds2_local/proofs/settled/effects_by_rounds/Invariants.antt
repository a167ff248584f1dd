use Rattle.std.proofs.Common.{◌≡◌, length}
use Rattle.ds2_locality.specs.Verdict.{JudgedThread}
use Rattle.ds2_local.specs.JudgedBodies.{HoldsJudged}
use Rattle.ds2_local.specs.SettledEffects.{CoversCycles, Settles}
use Rattle.ds2_local.proofs.SettleLemmas.{IsDeep}
use Rattle.ds2_local.proofs.settled.effects_by_rounds.Given as goal

abbrev pub invariant-rounds : goal.invariant-rounds
invariant-rounds l = (t : JudgedThread) → HoldsJudged t l.bodies → record {
  as_many : length l.effects ≡ length l.bodies.deeds.now;
  covers : CoversCycles l.bodies.cycles.now l.settled;
  settles : Settles t l.bodies l.known l.settled l.effects l.counter;
  deep : IsDeep l.bodies.deeds.now l.settled l.counter;
}
