use Rattle.std.proofs.Common.{◌≡◌, ◌++◌}
use Rattle.std.specs.Prelude.{replicate}
use Rattle.ds2_value.specs.declared.value.Value.TheVariants.{Null}
use Rattle.ds2_frames.proofs.pile.Pile.fill_with_nulls.Given as goal

abbrev pub invariant-loop-left : goal.invariant-loop-left
invariant-loop-left l = record {
  own : l.self.own ++ replicate l.left Null ≡ l.fn.self.own ++ replicate l.fn.nulls Null;
  below : l.self.below ≡ l.fn.self.below;
}

abbrev pub decreases-loop-left : goal.decreases-loop-left
decreases-loop-left l = l.left
