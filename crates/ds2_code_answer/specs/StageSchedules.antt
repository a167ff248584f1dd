-- A stage over loads in groups at a grain: what many workers give is its one-thread answer.
use Rattle.std.specs.Prelude.{◌≡◌, ℕ, List, Bool, true, Some, length, map}
use Rattle.ds2_value.specs.Progress.{Progress, Completed}
use Rattle.ds2_value.specs.declared.fault.Ending.TheVariants.{Normal}
use Rattle.ds2_value.specs.declared.value.Value.{Value}
use Rattle.ds2_table.specs.LoadLaws.{AreInByOrder}
use Rattle.ds2_table.specs.Loads.{Load, KeyedLoad, groups}
use Rattle.ds2_table.specs.OneThread.{Units, Reads, alone_answer}
use Rattle.ds2_schedule.specs.Stage.{StageStep}
use Rattle.ds2_schedule.specs.Groups.{Given, given_by, IsGroupIndependent, IsAmongGroups, stage_program, put_together, IsWholeHistory, results_by_group}
use Rattle.ds2_schedule.specs.Schedule.{GroupProgram, FixedPart, AgreeAsStates, one_thread}
use Rattle.ds2_code.specs.declared.parts.ProgramParts.{ProgramParts}
use Rattle.ds2_code.specs.CodeUnit.{code_init, code_run, code_term}
use Rattle.ds2_code.specs.Desk.{ProgramData}
use Rattle.ds2_code_answer.specs.StageTold.{StageTold, told_of_unit, told_in_turn, told_units, told_by_answer}

-- What each load sets, names with values.
abbrev pub load_sets : {N V : Type 0} → (Load → List (N × V)) → List KeyedLoad → List (List (N × V))
load_sets set loads = map (λ (l : KeyedLoad). set l.load) loads

-- Likewise in each group at a grain: the loads with equal values of the first BY variables, as many as the grain, and at grain 0 each load.
abbrev pub group_sets : {N V : Type 0} → (Load → List (N × V)) → ℕ → List KeyedLoad → List (List (List (N × V)))
group_sets set grain loads = map (load_sets set) (groups grain loads)

-- The groups of a stage as a program: a group's result is the fold of `run` over its loads.
abbrev pub group_results : {N V C : Type 0} → (ℕ → Units (List (N × V)) C) → ℕ → List (List (List (N × V))) → GroupProgram C (Given StageTold)
group_results units budget gs = stage_program (told_units units) (λ (t : StageTold). length t.rows) budget gs

-- What `init` tells, then what groups tell in order, up to and with the first fault, and where there is none what `term` tells.
abbrev pub told_of_stage : {N V C : Type 0} → (ℕ → Units (List (N × V)) C) → StageTold → List (Given StageTold) → Given StageTold → StageTold
told_of_stage units init in_turn term = told_in_turn init (put_together (told_units units) in_turn term).gave

-- A stage over loads in BY order: its units on every budget, what its loads set, the grain, and the state behind its `init`, which ended normally after so many instructions.
pub record StageSetting (C N V : Type 0) : Type 0 where
  pub units : ℕ → Units (List (N × V)) C
  pub set : Load → List (N × V)
  pub loads : List KeyedLoad
  pub grain : ℕ
  pub budget : ℕ
  pub opening : C
  pub first : C
  pub init : Progress
  pub executed : ℕ

-- The groups of a stage.
abbrev pub groups_of_stage : {C N V : Type 0} → StageSetting C N V → List (List (List (N × V)))
groups_of_stage s = group_sets s.set s.grain s.loads

-- The results of its groups.
abbrev pub results_of_stage : {C N V : Type 0} → StageSetting C N V → GroupProgram C (Given StageTold)
results_of_stage s = group_results s.units s.budget (groups_of_stage s)

-- Its one-thread answer: `init`, `run` on each load in order, `term`.
abbrev pub answer_of_stage : {C N V : Type 0} → StageSetting C N V → StageTold
answer_of_stage s = told_by_answer (alone_answer (Reads (s.units s.budget) (load_sets s.set s.loads) (length (groups s.grain s.loads))) s.opening)

-- The premises: loads in BY order; groups that are independent at the grain; an `init` that ended normally, in a state of the program.
pub record IsIndependentStage {C K W N V : Type 0} (s : StageSetting C N V) (is_state : C → Bool) (fixed : FixedPart C K W) (early : N → Bool) (descending : List Bool) : Type 0 where
  pub ordered : AreInByOrder descending s.loads
  pub free : IsGroupIndependent (told_units s.units) (IsAmongGroups (groups_of_stage s)) early (AgreeAsStates is_state fixed)
  pub begun : (s.units s.budget).init s.opening ≡ Completed s.first s.init s.executed
  pub state : is_state s.first ≡ true

-- A whole history of the stage's groups.
abbrev pub IsStageHistory : {C N V : Type 0} → StageSetting C N V → (workers : ℕ) → List StageStep → Type 0
IsStageHistory s workers xs = IsWholeHistory (results_of_stage s) (length (groups_of_stage s)) workers s.first xs

-- The results that were handed in, in order of group, up to and with the least fault.
abbrev pub results_in_turn : {C N V : Type 0} → StageSetting C N V → ℕ → List StageStep → List (Given StageTold)
results_in_turn s workers xs = results_by_group (results_of_stage s) (length (groups_of_stage s)) workers s.first xs

-- What its `init` tells, which ended normally.
abbrev pub told_by_init : {C N V : Type 0} → StageSetting C N V → StageTold
told_by_init s = told_of_unit s.init s.executed (Some Normal)

-- What its `term` gives from the first state.
abbrev pub given_by_term : {C N V : Type 0} → StageSetting C N V → Given StageTold
given_by_term s = given_by ((told_units s.units).term s.budget s.first)

-- What many workers tell: what `init` tells, then their results in order of group, then what `term` tells from the first state.
abbrev pub told_by_workers : {C N V : Type 0} → StageSetting C N V → ℕ → List StageStep → StageTold
told_by_workers s workers xs = told_of_stage s.units (told_by_init s) (results_in_turn s workers xs) (given_by_term s)

-- Many workers answer as one thread does.
pub record AnswersAsOneThread {C N V : Type 0} (s : StageSetting C N V) (workers : ℕ) (xs : List StageStep) : Type 0 where
  -- group by group, where one thread runs each group from the state that the one before it left
  pub by_group : results_in_turn s workers xs ≡ one_thread (results_of_stage s) s.first 0 (length (groups_of_stage s))
  -- in all that the stage tells
  pub told : told_by_workers s workers xs ≡ answer_of_stage s

-- Many workers answer as one thread does, in every stage whose groups are independent and by every whole history of them. C are the states of the stage, K the locations and W what they hold, N and V what a load sets.
abbrev pub AnySchedule : Type 0 → Type 0 → Type 0 → Type 0 → Type 0 → Type 0
AnySchedule C K W N V = (s : StageSetting C N V) (is_state : C → Bool) (fixed : FixedPart C K W) (early : N → Bool) (descending : List Bool) (workers : ℕ) (xs : List StageStep)
    → IsIndependentStage s is_state fixed early descending → IsStageHistory s workers xs → AnswersAsOneThread s workers xs

-- The units of a program's code, each with this budget.
abbrev pub units_of_code : ProgramParts → ℕ → Units (List (ℕ × Value)) ProgramData
units_of_code code budget = record { init = code_init code budget; run = code_run code budget; term = code_term code budget }

-- A stage of code: its units are those of the machine, loads set slots, and `init` may begin with any data, so with any parameters.
abbrev pub stage_of_code : ProgramParts → (Load → List (ℕ × Value)) → List KeyedLoad → (grain budget : ℕ) → (opening first : ProgramData) → Progress → ℕ → StageSetting ProgramData ℕ Value
stage_of_code code set loads grain budget opening first init executed =
    record { units = units_of_code code; set = set; loads = loads; grain = grain; budget = budget; opening = opening; first = first; init = init; executed = executed }

-- So it is with every stage of code: rows, lines, ending, and how many instructions were executed.
abbrev pub AnyScheduleOfCode : Type 0 → Type 0 → Type 0
AnyScheduleOfCode K W =
    (code : ProgramParts) (set : Load → List (ℕ × Value)) (loads : List KeyedLoad) (grain budget : ℕ) (opening first : ProgramData) (init : Progress) (executed : ℕ)
    (is_state : ProgramData → Bool) (fixed : FixedPart ProgramData K W) (early : ℕ → Bool) (descending : List Bool) (workers : ℕ) (xs : List StageStep)
    → let s = stage_of_code code set loads grain budget opening first init executed in
    IsIndependentStage s is_state fixed early descending → IsStageHistory s workers xs → AnswersAsOneThread s workers xs
