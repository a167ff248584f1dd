-- What all parties have when a stage has ended, and the history that it stands for.
use Rattle.std.specs.Prelude.{◌≡◌, ℕ, ◌+◌, ◌≤◌, List, ◌++◌, true, length, map}
use Rattle.std.specs.List.{range_with_len, concat}
use Rattle.ds2_schedule.specs.declared.rule.SeatView.TheVariants.{First}
use Rattle.ds2_schedule.specs.declared.tickets.Tickets.{Tickets}
use Rattle.ds2_schedule.specs.declared.tickets.TicketSeat.{TicketSeat}
use Rattle.ds2_schedule.specs.Runs.{times, once_below}
use Rattle.ds2_schedule.specs.Seats.{view_of}
use Rattle.ds2_schedule.specs.Stage.{StageStep, is_legal, is_complete}
use Rattle.ds2_schedule.specs.Rule.{shown, past}
use Rattle.ds2_schedule.specs.Bags.{GroupRun, Bag, group_in, groups_in, groups_of_runs, IsBag, history, StageHasEnded, AreAnswers, BagsAnswer}
use Rattle.ds2_schedule.specs.Schedule.{IsCarried, results, in_order}
use Rattle.ds2_bags.specs.declared.finishing.StageEnd.{StageEnd}
use Rattle.ds2_bags.specs.declared.group_end.GroupEnd.{GroupEnd}
use Rattle.ds2_bags.specs.Rest.{answered_run}
use Rattle.ds2_bags.specs.StageEnds.{program_of_job}
use Rattle.ds2_stage.specs.Bags.{EndedEarly, EndedInFull}
use Rattle.ds2_stage.specs.Gathered.{IsEndedPass}
use Rattle.ds2_stage.specs.Passes.{PassView}

-- What a worker brings when it has ended: its pass with one part of both ledgers, and groups that it ran, which are the first ones of its runs and gave the job's answers. Where it ended neither early nor at a fault they are all groups of its runs, and it has drawn past the last run.
pub record IsEndedBag (answer : ℕ → GroupEnd) (t : Tickets) (p : PassView) (runs : List GroupRun) (early : EndedEarly) : Type 0 where
  pub parts : p.parts ≡ 1
  pub pass : IsEndedPass t p
  pub bag : IsBag t.groups t.length (record { drawn = shown (view_of p.seat); runs = runs })
  pub answers : AreAnswers (program_of_job answer) tt runs
  pub whole : EndedInFull early runs → (map group_in runs ≡ groups_of_runs t.groups t.length (shown (view_of p.seat))) × (1 ≤ past t.runs (shown (view_of p.seat)))

-- The bags have each of m groups, once.
abbrev pub HaveEachOnce : ℕ → List Bag → Type 0
HaveEachOnce m bags = (g : ℕ) → times g (concat (map groups_in bags)) ≡ once_below g m

-- The first seat of so many workers, each of which was joined into it, shows the numbers below `word`, each once.
pub record HasAllNumbers (workers word : ℕ) (s : TicketSeat) : Type 0 where
  pub drawn : List ℕ
  pub once : (x : ℕ) → times x drawn ≡ once_below x word
  pub seat : view_of s ≡ First workers workers drawn

-- The first seat of so many workers shows their numbers, which are those below `word`, and then n further ones, the last of which are past the last run.
pub record HasDrawnRest (t : Tickets) (workers word n : ℕ) (s : TicketSeat) : Type 0 where
  pub drawn : List ℕ
  pub once : (x : ℕ) → times x drawn ≡ once_below x word
  pub seat : view_of s ≡ First workers workers (drawn ++ range_with_len word n)
  pub all : t.runs ≤ word + n

-- A history of a stage of m groups and so many workers is legal and complete, and each hand-in in it carries the job's answer.
pub record IsJobHistory (answer : ℕ → GroupEnd) (m workers : ℕ) (xs : List StageStep) : Type 0 where
  pub legal : is_legal m workers xs ≡ true
  pub complete : is_complete m workers xs ≡ true
  pub carried : IsCarried (program_of_job answer) workers tt xs

-- A stage has ended: the workers drew the numbers below `word`, the caller the n after them, and ran the groups `ran`. The history of that: the workers' draws in order of number, their hand-ins party by party, each in the order of its bag, the retaking, the caller's draws and hand-ins.
pub record HasEnded (answer : ℕ → GroupEnd) (t : Tickets) (bags : List Bag) (ran : List ℕ) (s : TicketSeat) : Type 0 where
  pub word : ℕ
  pub n : ℕ
  pub drawn : HasDrawnRest t (length bags) word n s
  pub ended : StageHasEnded t.groups (length bags) bags word n (map (answered_run answer) ran)
  pub answers : BagsAnswer (program_of_job answer) tt bags
  pub is : IsJobHistory answer t.groups (length bags) (history (length bags) bags word n (map (answered_run answer) ran))

-- What a stage of m groups gives comes of a history: what was handed in, in order of group up to the least fault.
pub record ComesOfHistory (answer : ℕ → GroupEnd) (m workers : ℕ) (end : StageEnd) : Type 0 where
  pub bags : List Bag
  pub word : ℕ
  pub n : ℕ
  pub more : List GroupRun
  pub ended : StageHasEnded m workers bags word n more
  pub is : IsJobHistory answer m workers (history workers bags word n more)
  pub in_turn : end.ends ≡ in_order (program_of_job answer).faults (results (program_of_job answer) workers tt (history workers bags word n more)) 0 m
