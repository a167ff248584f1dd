-- What is told of units that ran one after the other, and a program's units told so.
use Rattle.std.specs.Prelude.{ℕ, ◌+◌, List, [], ◌++◌, Option, Some, None}
use Rattle.ds2_value.specs.Progress.{Progress, UnitOutcome, Completed, Interrupted, Strayed}
use Rattle.ds2_value.specs.Run.{Written}
use Rattle.ds2_value.specs.declared.fault.Ending.{Ending}
use Rattle.ds2_value.specs.declared.fault.Ending.TheVariants.{Normal, Faulted}
use Rattle.ds2_table.specs.OneThread.{Units, Answer}
use Rattle.ds2_schedule.specs.Groups.{UnitRun, Normally, ByFault, StageUnits}

-- The rows and lines of units in order, how many instructions they executed, and how they ended: all of them normally, or the last one by a fault at its place; None where it strayed.
pub record StageTold : Type 0 where
  pub rows : List Written
  pub lines : List (List ℕ)
  pub executed : ℕ
  pub ending : Option Ending

-- What no unit tells.
abbrev pub told_of_none : StageTold
told_of_none = record { rows = []; lines = []; executed = 0; ending = Some Normal }

-- The first end that is not normal is the end.
abbrev pub ending_behind : Option Ending → Option Ending → Option Ending
ending_behind (Some Normal) after = after
ending_behind (Some (Faulted fault place)) after = Some (Faulted fault place)
ending_behind None after = None

-- What units tell, and then what those after them tell.
abbrev pub told_in_turn : StageTold → StageTold → StageTold
told_in_turn a b = record { rows = a.rows ++ b.rows; lines = a.lines ++ b.lines; executed = a.executed + b.executed; ending = ending_behind a.ending b.ending }

-- What one unit tells that came so far, executed so many instructions, and ended so.
abbrev pub told_of_unit : Progress → ℕ → Option Ending → StageTold
told_of_unit unit executed ending = record { rows = unit.rows; lines = unit.lines; executed = executed; ending = ending }

-- A unit with what it tells; one that strayed, which neither a tree nor valid code does, tells nothing else.
abbrev pub told_outcome : {C : Type 0} → UnitOutcome C → UnitRun C StageTold
told_outcome (Completed c unit executed) = Normally c (told_of_unit unit executed (Some Normal))
told_outcome (Interrupted fault unit executed) = ByFault (told_of_unit unit executed (Some (Faulted fault unit.place)))
told_outcome Strayed = ByFault (record { rows = []; lines = []; executed = 0; ending = None })

-- A program's units on a budget, each with what it tells.
abbrev pub told_units : {L C : Type 0} → (ℕ → Units L C) → StageUnits C L StageTold
told_units units = record {
  run = λ budget load c. told_outcome ((units budget).run load c);
  term = λ budget c. told_outcome ((units budget).term c);
  nothing = told_of_none;
  and_then = told_in_turn;
}

-- What a program's answer tells.
abbrev pub told_by_answer : Answer → StageTold
told_by_answer answer = record { rows = answer.rows; lines = answer.lines; executed = answer.executed; ending = answer.ending }
