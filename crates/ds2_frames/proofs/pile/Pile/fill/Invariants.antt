use Rattle.std.proofs.Common.{◌≡◌, ◌++◌, length}
use Rattle.ds2_frames.proofs.pile.Pile.fill.Given as goal

abbrev pub invariant-loop-value : goal.invariant-loop-value
invariant-loop-value l = record {
  own : l.self.own ++ l.arguments ≡ l.fn.self.own ++ l.fn.arguments;
  below : l.self.below ≡ l.fn.self.below;
}

abbrev pub decreases-loop-value : goal.decreases-loop-value
decreases-loop-value l = length l.arguments
