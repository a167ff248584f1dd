use Rattle.std.proofs.Common.{ℕ}
use Rattle.ds2_schedule.specs.Rule.{MayDraw}
use Rattle.ds2_schedule.specs.Seats.{view_of, IsSeatOf}
use Rattle.ds2_stage.specs.Ended.{HasAllNumbers}
use Rattle.ds2_stage.proofs.Drawn.{HasDrawnSome}
use Rattle.ds2_stage.proofs.drawing.draw_rest.Given as goal

abbrev pub invariant-loop-i : goal.invariant-loop-i
invariant-loop-i l = record {
  of : IsSeatOf l.tickets l.seat;
  may : MayDraw l.tickets.runs (view_of l.seat);
  drawn : (workers word : ℕ) → HasAllNumbers workers word l.initial.seat → HasDrawnSome workers word l._i l.seat;
}
