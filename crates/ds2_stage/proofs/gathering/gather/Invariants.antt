use Rattle.ds2_stage.proofs.Joined.{IsGathering}
use Rattle.ds2_stage.proofs.gathering.gather.Given as goal

abbrev pub invariant-loop-pass : goal.invariant-loop-pass
invariant-loop-pass g l = record {
  gathering : IsGathering l.shared.tickets l.fn.caller l.fn.workers l.left.items l.all;
}

abbrev pub decreases-loop-pass : goal.decreases-loop-pass
decreases-loop-pass g l = goal.left-loop-pass g l
