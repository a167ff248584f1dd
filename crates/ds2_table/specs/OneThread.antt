-- The one-thread answer of a program: its units one after the other, whatever the units run on.
use Rattle.std.specs.Prelude.{ℕ, ◌+◌, List, [], ◌∷◌, ◌++◌, length, map, Option, Some, None}
use Rattle.ds2_base.specs.declared.place.Place.{Place}
use Rattle.ds2_value.specs.Progress.{Progress, UnitOutcome, Completed, Interrupted, Strayed}
use Rattle.ds2_value.specs.Row.{Row}
use Rattle.ds2_value.specs.Run.{Event, Written}
use Rattle.ds2_value.specs.declared.fault.Ending.{Ending}
use Rattle.ds2_value.specs.declared.fault.Ending.TheVariants.{Normal, Faulted}
use Rattle.ds2_value.specs.declared.fault.Fault.{Fault}
use Rattle.ds2_value.specs.declared.value.Value.{Value}

-- the units of a program over loads L and variables C
pub record Units (L C : Type 0) : Type 0 where
  pub init : C → UnitOutcome C
  pub run : L → C → UnitOutcome C
  pub term : C → UnitOutcome C

-- a program with what it reads. It reads the loads of its reading statement, which make so many groups; or it reads from a thread
-- program, each of whose rows is a group: that one is opened with values of its parameters, these are told from what the program
-- keeps behind its `init`, and a row is a load
pub data ProgramOf (L C : Type 0) : Type 0 where
  Reads : Units L C → List L → (groups : ℕ) → ProgramOf L C
  ReadsFrom : Units L C → (stage : ProgramOf L C) → (opened : List Value → C) → (parameters : C → List Value) → (load : Row → L) → ProgramOf L C

-- ---- loads one after the other

-- where a program stands behind some of its loads: on with these variables, at a fault in a step, or astray
pub data Reached (C : Type 0) : Type 0 where
  Standing : C → Reached C
  Halted : Fault → Place → Reached C
  Astray : Reached C

-- what `run` on some loads leaves: rows and lines in order, the way of each unit, what each left of the budget, how many
-- instructions they executed, and where the program stands
pub record GroupResult (C : Type 0) : Type 0 where
  pub rows : List Written
  pub lines : List (List ℕ)
  pub ways : List (List Event)
  pub budgets_left : List ℕ
  pub executed : ℕ
  pub reached : Reached C

-- before the first load, or at a fault or astray
abbrev pub group_at : {C : Type 0} → Reached C → GroupResult C
group_at reached = record { rows = []; lines = []; ways = []; budgets_left = []; executed = 0; reached = reached }

-- what a unit leaves, and then what the loads after it leave
abbrev pub joined_result : {C : Type 0} → Progress → ℕ → GroupResult C → GroupResult C
joined_result unit executed after = record {
  rows = unit.rows ++ after.rows;
  lines = unit.lines ++ after.lines;
  ways = unit.way ∷ after.ways;
  budgets_left = unit.left ∷ after.budgets_left;
  executed = executed + after.executed;
  reached = after.reached;
}

-- goes on with the variables that a unit leaves; a fault halts the program at its place
abbrev pub then_loads : {C : Type 0} → UnitOutcome C → (C → GroupResult C) → GroupResult C
then_loads (Completed c unit n) go = joined_result unit n (go c)
then_loads (Interrupted fault unit n) go = joined_result unit n (group_at (Halted fault unit.place))
then_loads Strayed go = group_at Astray

-- `run` on each of these loads in order, up to the first fault
abbrev pub run_all : {L C : Type 0} → Units L C → List L → C → GroupResult C
run_all units [] c = group_at (Standing c)
run_all units (l ∷ loads) c = then_loads (units.run l c) (run_all units loads)

-- ---- programs

-- what is known of a thread program that a program read from: how many groups its loads make, or 0 where it ended by a fault;
-- how many instructions its units executed; and how it ended
pub record StageAnswer : Type 0 where
  pub groups : ℕ
  pub executed : ℕ
  pub ending : Option Ending

-- what a program leaves: rows and lines in order, how it ended (None where a unit strayed, which neither trees nor valid code
-- do), what each of its units left of the budget, those of its stage among them, how many groups its loads make (0 behind a
-- fault) and how many instructions its own units executed; then the thread programs that it read from, the nearest one first,
-- none where it reads from none or its `init` faulted
pub record Answer : Type 0 where
  pub rows : List Written
  pub lines : List (List ℕ)
  pub ending : Option Ending
  pub budgets_left : List ℕ
  pub groups : ℕ
  pub executed : ℕ
  pub stages : List StageAnswer

-- a program that has no unit left to run
abbrev pub nothing_left : Option Ending → Answer
nothing_left ending = record { rows = []; lines = []; ending = ending; budgets_left = []; groups = 0; executed = 0; stages = [] }

-- what a unit leaves, and then what comes after it
abbrev pub followed_by : Progress → ℕ → Answer → Answer
followed_by unit executed after = record after {
  rows = unit.rows ++ after.rows;
  lines = unit.lines ++ after.lines;
  budgets_left = unit.left ∷ after.budgets_left;
  executed = executed + after.executed;
}

-- goes on with the variables that a unit leaves; a fault ends the program at its place
abbrev pub then_unit : {C : Type 0} → UnitOutcome C → (C → Answer) → Answer
then_unit (Completed c unit n) go = followed_by unit n (go c)
then_unit (Interrupted fault unit n) go = followed_by unit n (nothing_left (Some (Faulted fault unit.place)))
then_unit Strayed go = nothing_left None

-- what comes behind the loads: the last unit where all of them have run, else nothing
abbrev pub behind_loads : {C : Type 0} → Reached C → (C → Answer) → Answer
behind_loads (Standing c) go = go c
behind_loads (Halted fault place) go = nothing_left (Some (Faulted fault place))
behind_loads Astray go = nothing_left None

-- what loads leave, and then what comes behind them
abbrev pub joined_loads : {C : Type 0} → GroupResult C → Answer → Answer
joined_loads loads after = record after {
  rows = loads.rows ++ after.rows;
  lines = loads.lines ++ after.lines;
  budgets_left = loads.budgets_left ++ after.budgets_left;
  executed = loads.executed + after.executed;
}

-- `term`, and with it the program's end
abbrev pub last_unit : {L C : Type 0} → Units L C → C → Answer
last_unit units c = then_unit (units.term c) (λ d. nothing_left (Some Normal))

-- `run` on each load, and then `term`
abbrev pub run_each : {L C : Type 0} → Units L C → List L → C → Answer
run_each units loads c = let result = run_all units loads c in joined_loads result (behind_loads result.reached (last_unit units))

-- a number of groups where a program ended normally, else 0
abbrev pub groups_at : Option Ending → ℕ → ℕ
groups_at (Some Normal) groups = groups
groups_at (Some (Faulted fault place)) groups = 0
groups_at None groups = 0

-- an answer of a program whose loads make so many groups
abbrev pub with_groups : ℕ → Answer → Answer
with_groups groups answer = record answer { groups = groups_at answer.ending groups }

-- the rows that a thread program wrote, in order
abbrev pub stage_rows : Answer → List Row
stage_rows stage = map (λ (w : Written). w.row) stage.rows

-- what is known of a thread program from its answer, before what is known of those that it read from itself
abbrev pub stage_notes : Answer → List StageAnswer
stage_notes stage = record { groups = stage.groups; executed = stage.executed; ending = stage.ending } ∷ stage.stages

-- what a stage leaves to the program that reads from it: its lines and budgets come first
abbrev pub behind_stage : Answer → Answer → Answer
behind_stage stage after =
    record after { lines = stage.lines ++ after.lines; budgets_left = stage.budgets_left ++ after.budgets_left; stages = stage_notes stage }

-- a stage has ended: the program goes on with its rows, and a fault of the stage ends the program that reads from it
abbrev pub after_stage : Option Ending → Answer → (List Row → Answer) → Answer
after_stage (Some Normal) stage go = behind_stage stage (go (stage_rows stage))
after_stage (Some (Faulted fault place)) stage go = behind_stage stage (nothing_left (Some (Faulted fault place)))
after_stage None stage go = behind_stage stage (nothing_left None)

-- the one-thread answer: `init`; for a program that reads from a thread program that one's whole answer, whose rows are the
-- loads in the order in which they were written; `run` on each load; `term`
abbrev pub alone_answer : {L C : Type 0} → ProgramOf L C → C → Answer
alone_answer (Reads units loads groups) c = with_groups groups (then_unit (units.init c) (run_each units loads))
alone_answer (ReadsFrom units stage opened parameters load) c =
    then_unit (units.init c) (λ d.
    let answer = alone_answer stage (opened (parameters d)) in
    after_stage answer.ending answer (λ rows. with_groups (length rows) (run_each units (map load rows) d)))
