use Rattle.std.proofs.Common.{◌≡◌, ℕ, suc, length}
use Rattle.ds2_locality.specs.Verdict.{JudgedThread}
use Rattle.ds2_local.specs.JudgedBodies.{HoldsJudged}
use Rattle.ds2_local.specs.SettledEffects.{CoversCycles, Settles}
use Rattle.ds2_local.proofs.SettleLemmas.{HasGone}
use Rattle.ds2_local.proofs.settled.settle_round.Given as goal

abbrev pub invariant-methods : goal.invariant-methods
invariant-methods l = record {
  number : l.number ≡ l.method-index;
  as_many : length l.effects ≡ length l.fn.effects;
  gone : HasGone l.bodies.deeds.now l.settled l.next l.number;
  old : (t : JudgedThread) (depth : ℕ) → HoldsJudged t l.bodies → CoversCycles l.bodies.cycles.now l.settled → length l.fn.effects ≡ length l.settled → Settles t l.bodies l.known l.settled l.fn.effects depth → Settles t l.bodies l.known l.settled l.effects depth;
  new : (t : JudgedThread) (depth : ℕ) → HoldsJudged t l.bodies → CoversCycles l.bodies.cycles.now l.settled → length l.fn.effects ≡ length l.settled → Settles t l.bodies l.known l.settled l.fn.effects depth → Settles t l.bodies l.known l.next l.effects (suc depth);
}
