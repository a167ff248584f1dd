-- What a worker brings.
use Rattle.std.specs.Prelude.{◌≡◌, ℕ, ◌+◌, ◌≤◌, List, [], ◌++◌, Bool, false, Option, None, length, map, sum_by, IfSome}
use Rattle.ds2_schedule.specs.declared.rule.SeatView.{SeatView}
use Rattle.ds2_schedule.specs.declared.rule.SeatView.TheVariants.{First, Other, Spent}
use Rattle.ds2_schedule.specs.declared.tickets.Tickets.{Tickets}
use Rattle.ds2_schedule.specs.Rule.{shown, past}
use Rattle.ds2_schedule.specs.Seats.{view_of, IsSeatOf}
use Rattle.ds2_schedule.specs.Bags.{GroupRun, group_in, groups_of_runs, AreFrom, IsAscending, OnlyLastFaults, AreAnswers}
use Rattle.ds2_bags.specs.declared.group_end.GroupEnd.{GroupEnd}
use Rattle.ds2_bags.specs.StageEnds.{program_of_job}
use Rattle.std.specs.List.{list_any}
use Rattle.ds2_stage.specs.declared.desk.Odd.{Odd}
use Rattle.ds2_stage.specs.Odds.{IsOdd}
use Rattle.ds2_stage.specs.Passes.{PassView}

-- A seat that was split from the first one, and not joined into it again.
abbrev pub IsWorkerSeat : SeatView → Type 0
IsWorkerSeat (First split joined drawn) = ⊥
IsWorkerSeat (Other drawn) = Unit {0}
IsWorkerSeat Spent = ⊥

-- The rows of a group that was run.
abbrev pub rows_in : GroupRun → ℕ
rows_in r = r.rows

-- Whether a fault is among the groups that were run.
abbrev pub has_fault : List GroupRun → Bool
has_fault runs = list_any (λ (r : GroupRun). r.faulted) runs

-- Why a worker ended before the last run: for want of memory, by a test of the book that failed, or since a lower group had faulted.
pub record EndedEarly : Type 0 where
  pub short : Bool
  pub odd : Option Odd
  pub stop : Option ℕ

-- A worker that ended for none of these reasons.
abbrev pub not_early : EndedEarly
not_early = record { short = false; odd = None; stop = None }

-- What a worker brings that has run these groups: they are the first ones of the runs that its seat drew, in order, and `rest` are the others; each gave the job's answer, and only the last may be a fault.
pub record HasWorked (answer : ℕ → GroupEnd) (t : Tickets) (before after : PassView) (runs : List GroupRun) (early : EndedEarly) : Type 0 where
  -- The pass is the worker's own, and counts what was handed in.
  pub number : after.number ≡ before.number
  pub parts : after.parts ≡ before.parts
  pub groups : after.groups ≡ length runs
  pub rows : after.rows ≡ sum_by rows_in runs
  -- The seat is the worker's own, and its numbers ascend.
  pub of : IsSeatOf t after.seat
  pub seat : IsWorkerSeat (view_of after.seat)
  pub ascends : IsAscending (shown (view_of after.seat))
  -- The groups.
  pub rest : List ℕ
  pub begins : map group_in runs ++ rest ≡ groups_of_runs t.groups t.length (shown (view_of after.seat))
  pub faults : OnlyLastFaults runs
  pub answers : AreAnswers (program_of_job answer) tt runs
  -- Where the worker ended neither early nor at a fault, no group is left, and a number past the last run was drawn.
  pub whole : early ≡ not_early → has_fault runs ≡ false → (rest ≡ []) × (1 ≤ past t.runs (shown (view_of after.seat)))
  -- The group that made it stop is below every group that is left.
  pub stopped : IfSome early.stop (λ f. AreFrom (f + 1) rest)
  -- A test that failed tells two numbers that differ.
  pub tested : IfSome early.odd (IsOdd t.groups)

-- A worker ended neither early nor at a fault.
abbrev pub EndedInFull : EndedEarly → List GroupRun → Type 0
EndedInFull early runs = (early ≡ not_early) × (has_fault runs ≡ false)
