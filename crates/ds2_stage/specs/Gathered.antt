-- What the caller has behind the joins.
use Rattle.std.specs.Prelude.{◌≡◌, ℕ, List, sum_by, length, ◌≤◌}
use Rattle.ds2_schedule.specs.declared.rule.SeatView.TheVariants.{First}
use Rattle.ds2_schedule.specs.declared.tickets.Tickets.{Tickets}
use Rattle.ds2_schedule.specs.declared.tickets.TicketSeat.{TicketSeat}
use Rattle.ds2_schedule.specs.Runs.{times, once_below}
use Rattle.ds2_schedule.specs.Rule.{shown, past}
use Rattle.ds2_schedule.specs.Seats.{view_of, IsSeatOf}
use Rattle.ds2_stage.specs.Bags.{IsWorkerSeat}
use Rattle.ds2_stage.specs.Passes.{PassView}

-- The pass of a worker that has ended.
pub record IsEndedPass (t : Tickets) (p : PassView) : Type 0 where
  pub of : IsSeatOf t p.seat
  pub seat : IsWorkerSeat (view_of p.seat)

-- How often a worker's seat shows a number.
abbrev pub times_shown : ℕ → PassView → ℕ
times_shown x p = times x (shown (view_of p.seat))

-- The first seat with every other one joined into it: it shows the numbers of all workers' seats, which are those below the next one, each once.
pub record HasJoined (t : Tickets) (passes : List PassView) (s : TicketSeat) : Type 0 where
  pub of : IsSeatOf t s
  pub drawn : List ℕ
  pub first : view_of s ≡ First (length passes) (length passes) drawn
  pub all : (x : ℕ) → times x drawn ≡ sum_by (times_shown x) passes
  pub next : ℕ
  pub once : (x : ℕ) → times x drawn ≡ once_below x next
  -- At most as many numbers past the last run as seats were joined into it.
  pub few : past t.runs drawn ≤ length passes
