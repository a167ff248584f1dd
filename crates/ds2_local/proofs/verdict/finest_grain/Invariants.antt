use Rattle.std.proofs.Common.{◌≡◌, ◌<◌, ◌≤◌, ◌-◌, suc, None}
use Rattle.ds2_locality.specs.Verdict.{JudgedThread, coarsest, ground_at}
use Rattle.ds2_local.specs.HeldWalks.{HoldsWalks}
use Rattle.ds2_local.proofs.verdict.finest_grain.Given as goal

abbrev pub invariant-grains : goal.invariant-grains
invariant-grains l = record {
  some : coarsest l.count ≤ l.grain;
  below : l.grain ≤ l.finest;
  few : l.finest ≤ l.count;
  holds : (t : JudgedThread) → HoldsWalks t l.bodies l.cells l.later → ground_at t (coarsest l.count) ≡ None → ground_at t l.grain ≡ None;
  fails : (t : JudgedThread) → HoldsWalks t l.bodies l.cells l.later → l.finest < l.count → ground_at t (suc l.finest) ≡ None → ⊥;
}

abbrev pub decreases-grains : goal.decreases-grains
decreases-grains l = l.finest - l.grain
