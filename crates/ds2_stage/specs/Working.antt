-- A worker between two groups.
use Rattle.std.specs.Prelude.{◌≡◌, ℕ, ◌-◌, ◌≤◌, List, ◌++◌, ◌∷◌, [], Bool, false, length, map, sum_by}
use Rattle.std.specs.List.{AllByRecursion, range_with_len}
use Rattle.ds2_schedule.specs.declared.tickets.Tickets.{Tickets}
use Rattle.ds2_schedule.specs.Rule.{shown, MayDraw}
use Rattle.ds2_schedule.specs.Seats.{view_of, IsSeatOf}
use Rattle.ds2_schedule.specs.Bags.{GroupRun, group_in, groups_of_runs, IsAscending, AreAnswers}
use Rattle.ds2_bags.specs.declared.group_end.GroupEnd.{GroupEnd}
use Rattle.ds2_bags.specs.Endings.{ended_by_fault}
use Rattle.ds2_bags.specs.Rest.{answered_run}
use Rattle.ds2_bags.specs.StageEnds.{program_of_job}
use Rattle.ds2_stage.specs.Bags.{IsWorkerSeat, rows_in}
use Rattle.ds2_stage.specs.Passes.{PassView, IsHandedIn}

-- No fault is among the groups that were run.
abbrev pub AreCalm : List GroupRun → Type 0
AreCalm runs = AllByRecursion (λ (r : GroupRun). r.faulted ≡ false) runs

-- A worker that has run these groups without a fault, and has the groups from `next` up to `end` left of the runs that it drew.
pub record IsWorking (answer : ℕ → GroupEnd) (t : Tickets) (before now : PassView) (runs : List GroupRun) (next end : ℕ) : Type 0 where
  pub number : now.number ≡ before.number
  pub parts : now.parts ≡ before.parts
  pub groups : now.groups ≡ length runs
  pub rows : now.rows ≡ sum_by rows_in runs
  pub of : IsSeatOf t now.seat
  pub seat : IsWorkerSeat (view_of now.seat)
  pub may : MayDraw t.runs (view_of now.seat)
  pub ascends : IsAscending (shown (view_of now.seat))
  pub inside : (next ≤ end) × (end ≤ t.groups)
  pub left : map group_in runs ++ range_with_len next (end - next) ≡ groups_of_runs t.groups t.length (shown (view_of now.seat))
  pub calm : AreCalm runs
  pub answers : AreAnswers (program_of_job answer) tt runs

-- Group g was run too, gave the job's answer, and was handed in.
pub record IsOneMore (answer : ℕ → GroupEnd) (g : ℕ) (before after : PassView) (runs more : List GroupRun) (faulted : Bool) : Type 0 where
  pub fault : ended_by_fault (answer g).ending ≡ faulted
  pub pass : IsHandedIn before (length (answer g).rows) after
  pub runs_are : more ≡ runs ++ answered_run answer g ∷ []
