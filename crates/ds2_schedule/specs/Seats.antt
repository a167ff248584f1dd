-- What the calls on tickets and their seats give.
use Rattle.std.specs.Prelude.{◌≡◌, ℕ, ◌+◌, ◌-◌, ◌*◌, ◌<◌, ◌≤◌, List, [], ◌++◌, true, min, if◌then◌else◌, nat_lt}
use Rattle.std.specs.List.{range_with_len}
use Rattle.ds2_schedule.specs.declared.rule.SeatView.{SeatView}
use Rattle.ds2_schedule.specs.declared.tickets.Tickets.{Tickets}
use Rattle.ds2_schedule.specs.declared.tickets.TicketSeat.{TicketSeat}
use Rattle.ds2_schedule.specs.declared.tickets.Draw.{Draw}
use Rattle.ds2_schedule.specs.declared.tickets.Draw.TheVariants.{Run, NoMore}
use Rattle.ds2_schedule.specs.Runs.{run_groups}
use Rattle.ds2_schedule.specs.Stage.{Stage, Draws, changed_at, is_legal_step, after_step}
use Rattle.ds2_schedule.specs.Rule.{shown, past, most_past, with_number, IsAbove, ShowsAll}

-- What a seat shows.
abbrev pub view_of : TicketSeat → SeatView
view_of s = s.seat.me.0

-- The seat is one of these tickets, and shows no more numbers past the last run than a seat may.
pub record IsSeatOf (t : Tickets) (s : TicketSeat) : Type 0 where
  pub table : s.seat.table_id ≡ t.table.shared.table_id
  pub few_past : past t.runs (shown (view_of s)) ≤ most_past (view_of s)

-- The draw gave a run.
abbrev pub IsRun : Draw → Type 0
IsRun (Run from to) = Unit {0}
IsRun (NoMore d) = ⊥

-- What number d gives: the groups of run d, or no more where d is past the last run.
abbrev pub draw_of : Tickets → ℕ → Draw
draw_of t d = if nat_lt d t.runs then Run (d * t.length) (min t.groups ((d + 1) * t.length)) else NoMore d

-- The groups that a draw gives.
abbrev pub groups_drawn : Draw → List ℕ
groups_drawn (Run from to) = range_with_len from (to - from)
groups_drawn (NoMore d) = []

-- A run has a group, and no group past the last.
abbrev pub IsInside : Tickets → Draw → Type 0
IsInside t (Run from to) = (from < to) × (to ≤ t.groups)
IsInside t (NoMore d) = Unit {0}

-- A draw is one step of the stage machine: where as many runs were drawn as the number says, any party's draw of it is legal, and puts the groups that it gives behind those left for the party.
abbrev pub IsDrawStep : Tickets → ℕ → Draw → Type 0
IsDrawStep t number answer = (workers w : ℕ) (s : Stage) → w ≤ workers → s.drawn ≡ number →
    (is_legal_step workers s (Draws w number) ≡ true)
    × (after_step t.groups t.length workers s (Draws w number) ≡ record { drawn = number + 1; left = changed_at (λ gs. gs ++ groups_drawn answer) s.left w; handed = s.handed })

-- One draw: a number above all that the seat showed, which is the next one where the seat shows all; the answer is what that number gives, the groups of its run.
pub record HasDrawn (t : Tickets) (before after : SeatView) (answer : Draw) : Type 0 where
  pub number : ℕ
  pub shows : after ≡ with_number number before
  pub above : IsAbove number before
  pub all : ShowsAll number before
  pub gives : answer ≡ draw_of t number
  pub groups : groups_drawn answer ≡ run_groups t.groups t.length number
  pub step : IsDrawStep t number answer
