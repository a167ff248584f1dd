use Rattle.std.proofs.Common.{◌≡◌, ◌+◌, ◌<◌, ◌≤◌, ℕ, [], vec_len}
use Rattle.std.specs.Prelude.{slice_index_or, vec_capacity}
use Rattle.ds2_schedule.specs.declared.rule.SeatView.TheVariants.{First}
use Rattle.ds2_schedule.specs.Seats.{view_of, IsSeatOf}
use Rattle.ds2_stage.specs.Passes.{PassView, IsWorkerPass}
use Rattle.ds2_stage.proofs.opening.open_shared.Given as goal

abbrev pub invariant-loop-number : goal.invariant-loop-number
invariant-loop-number g l = record {
  counts : l.counts.parts + l.number ≡ l.workers + 1;
  rows : l.row_counts.parts + l.number ≡ l.workers + 1;
  none : (l.counts.amount ≡ 0) × (l.row_counts.amount ≡ 0);
  of : IsSeatOf l.tickets l.first;
  first : view_of l.first ≡ First l.number 0 [];
  made : vec_len l.passes ≡ l.number;
  room : l.workers ≤ vec_capacity l.passes;
  each : (i : ℕ) (d : PassView) → i < l.number → IsWorkerPass l.tickets i (slice_index_or l.passes.items i d);
}
