-- The state of a run between two steps, and the words that expressions and statements are written with.
use Rattle.std.specs.Prelude.{ℕ, zero, suc, Bool, true, false, bytes_eq, if◌then◌else◌, List, Result, Ok, Err}
use Rattle.ds2_base.specs.declared.place.Place.{Place}
use Rattle.ds2_value.specs.Progress.{Progress, with_event, with_failure, with_step, without_step, with_written, with_line}
use Rattle.ds2_value.specs.Row.{Row}
use Rattle.ds2_value.specs.Run.{Event, Did, Tested}
use Rattle.ds2_value.specs.declared.fault.Fault.{Fault}
use Rattle.ds2_value.specs.declared.fault.Fault.TheVariants.{BudgetSpent}
use Rattle.ds2_value.specs.declared.value.Value.{Value}
use Rattle.ds2_value.specs.declared.value.Value.TheVariants.{Null}
use Rattle.ds2_meaning.specs.declared.location.Reference.{Reference}
use Rattle.ds2_meaning.specs.declared.location.Reference.TheVariants.{At, Local}
use Rattle.ds2_meaning.specs.Location.{Home, Location, Content, Storage, Holds, held, with_content}

-- the values of a method's parameters and locals, by name
abbrev pub Locals : Type 0
Locals = List ℕ → Value

-- every local is null
abbrev pub no_locals : Locals
no_locals name = Null

-- a local gets a value, and every other one keeps its own
abbrev pub with_local : List ℕ → Value → Locals → Locals
with_local name v before = λ other. if bytes_eq other name then v else before other

-- the state of a run: what each location holds, the locals of the method that is under way, and how far the run has come
pub record RunState : Type 0 where
  pub storage : Storage
  pub locals : Locals
  pub progress : Progress

-- the same variables, and another progress
abbrev pub with_progress : Progress → RunState → RunState
with_progress p w = record { storage = w.storage; locals = w.locals; progress = p }

-- one more event of the way
abbrev pub noting : Event → RunState → RunState
noting e w = with_progress (with_event e w.progress) w

-- an operation has failed
abbrev pub noting_failure : RunState → RunState
noting_failure w = with_progress (with_failure w.progress) w

-- what the variable has that a method of this home names
abbrev pub variable_value : Home → Reference → RunState → Value
variable_value home (At global) w = held (w.storage (record { home = home; global = global }))
variable_value home (Local name) w = w.locals name

-- a variable that a method of this home names gets a value
abbrev pub store : Home → Reference → Value → RunState → RunState
store home (At global) v w =
    record { storage = with_content (record { home = home; global = global }) (Holds v) w.storage; locals = w.locals; progress = w.progress }
store home (Local name) v w = record { storage = w.storage; locals = with_local name v w.locals; progress = w.progress }

-- a location gets a new content
abbrev pub keep_at : Location → Content → RunState → RunState
keep_at at c w = record { storage = with_content at c w.storage; locals = w.locals; progress = w.progress }

-- a row is added to an output
abbrev pub write_row : ℕ → Row → RunState → RunState
write_row output row w = with_progress (with_written output row w.progress) w

-- a line is added to the log
abbrev pub put_line : List ℕ → RunState → RunState
put_line line w = with_progress (with_line line w.progress) w

-- ---- expressions

-- how an expression ends: with a value, or with a fault
pub data ExpressionEnd : Type 0 where
  Gives : Value → RunState → ExpressionEnd
  Breaks : Fault → RunState → ExpressionEnd

-- goes on with the value of an operand
abbrev pub then_operand : ExpressionEnd → (Value → RunState → ExpressionEnd) → ExpressionEnd
then_operand (Gives v w) go = go v w
then_operand (Breaks f w) go = Breaks f w

-- an operation that may fault: it gives its value, or breaks off
abbrev pub attempt : Result Value Fault → RunState → ExpressionEnd
attempt (Ok v) w = Gives v (noting Did w)
attempt (Err f) w = Breaks f (noting_failure w)

-- how several expressions end: with their values in order, or with the first fault
pub data ExpressionsEnd : Type 0 where
  GiveAll : List Value → RunState → ExpressionsEnd
  BreakAt : Fault → RunState → ExpressionsEnd

-- ---- statements

-- how a statement ends: it goes on to the next one, leaves or continues the innermost loop, returns from its method, or faults
pub data StatementOutcome : Type 0 where
  Proceeds : RunState → StatementOutcome
  Leaves : RunState → StatementOutcome
  Continues : RunState → StatementOutcome
  Returns : Value → RunState → StatementOutcome
  Faults : Fault → RunState → StatementOutcome

-- a statement faults: a `select` of which no part applies counts as an operation that fails
abbrev pub raises : Fault → RunState → StatementOutcome
raises fault w = Faults fault (noting_failure w)

-- goes on with a value; a fault ends the statement, at its place
abbrev pub then_value : ExpressionEnd → (Value → RunState → StatementOutcome) → StatementOutcome
then_value (Gives v w) go = go v w
then_value (Breaks f w) go = Faults f w

-- goes on to the next statement
abbrev pub then_statement : StatementOutcome → (RunState → StatementOutcome) → StatementOutcome
then_statement (Proceeds w) go = go w
then_statement (Leaves w) go = Leaves w
then_statement (Continues w) go = Continues w
then_statement (Returns v w) go = Returns v w
then_statement (Faults f w) go = Faults f w

-- goes on after the body of a loop: `leave` ends the loop, and `continue` goes on with it
abbrev pub then_round : StatementOutcome → (RunState → StatementOutcome) → StatementOutcome
then_round (Proceeds w) go = go w
then_round (Leaves w) go = Proceeds w
then_round (Continues w) go = go w
then_round (Returns v w) go = Returns v w
then_round (Faults f w) go = Faults f w

-- a step that finds the budget spent
abbrev pub step_fails : Place → RunState → StatementOutcome
step_fails place w = Faults BudgetSpent (with_progress (without_step place w.progress) w)

-- a step at a place that finds this much of the budget
abbrev pub step_finding : ℕ → Place → RunState → (RunState → StatementOutcome) → StatementOutcome
step_finding zero place w go = step_fails place w
step_finding (suc n) place w go = go (with_progress (with_step place n w.progress) w)

-- a step begins at a place: one less of the budget, or BudgetSpent
abbrev pub begin_step : Place → RunState → (RunState → StatementOutcome) → StatementOutcome
begin_step place w go = step_finding w.progress.left place w go

-- goes on by a test: the first way where it holds, and else the second
abbrev pub take_branch : Bool → RunState → (RunState → StatementOutcome) → (RunState → StatementOutcome) → StatementOutcome
take_branch true w on off = on w
take_branch false w on off = off w

-- a test comes out, which is an event, and then goes on by it
abbrev pub after_test : Bool → RunState → (RunState → StatementOutcome) → (RunState → StatementOutcome) → StatementOutcome
after_test holds w on off = take_branch holds (noting (Tested holds) w) on off
