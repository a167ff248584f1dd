-- What a stage gives: its one-thread answer.
use Rattle.std.specs.Prelude.{◌≡◌, ℕ, zero, suc, ◌+◌, Option, Some, None, length, if◌then◌else◌}
use Rattle.ds2_schedule.specs.Schedule.{GroupProgram, one_thread}
use Rattle.ds2_bags.specs.declared.group_end.GroupEnd.{GroupEnd}
use Rattle.ds2_bags.specs.declared.finishing.StageEnd.{StageEnd}
use Rattle.ds2_bags.specs.Endings.{ended_by_fault}

-- A job as a program without a state of its own: each group gives its answer.
abbrev pub program_of_job : (ℕ → GroupEnd) → GroupProgram (Unit {0}) GroupEnd
program_of_job answer = record {
  result = λ s g. answer g;
  leaves = λ s g. s;
  rows = λ e. length e.rows;
  faults = λ e. ended_by_fault e.ending;
}

-- The first of the n groups from g on whose answer is a fault.
abbrev pub first_faulted : (ℕ → GroupEnd) → ℕ → ℕ → Option ℕ
first_faulted answer g zero = None
first_faulted answer g (suc n) = if ended_by_fault (answer g).ending then Some g else first_faulted answer (g + 1) n

-- What a stage of m groups gives: the answers that one thread gives, in order up to and with the first fault, and that fault's group.
pub record IsStageEnd (answer : ℕ → GroupEnd) (m : ℕ) (end : StageEnd) : Type 0 where
  pub in_turn : end.ends ≡ one_thread (program_of_job answer) tt 0 m
  pub fault : end.faulted ≡ first_faulted answer 0 m

-- What was brought of a group, where it was, is its answer.
abbrev pub Brings : (ℕ → GroupEnd) → ℕ → Option GroupEnd → Type 0
Brings answer g None = Unit {0}
Brings answer g (Some end) = end ≡ answer g
