-- What a piece of code at a place does: from here the run goes on as the meaning goes on.
use Rattle.std.specs.Prelude.{◌≡◌, ◌≤◌, ◌+◌, ℕ, Bool, true, false, List, [], ◌∷◌, Some, slice_get}
use Rattle.ds2_value.specs.Progress.{Progress}
use Rattle.ds2_value.specs.Row.{Row}
use Rattle.ds2_value.specs.declared.value.Value.{Value}
use Rattle.ds2_meaning.specs.RunState.{RunState, ExpressionEnd, Gives, Breaks, StatementOutcome, Proceeds, Leaves, Continues, Returns, Faults}
use Rattle.ds2_code.specs.declared.instr.Instr.{Instr}
use Rattle.ds2_code.specs.declared.instr.Instr.TheVariants.{Ret, RetV}
use Rattle.ds2_code.specs.declared.parts.ProgramParts.{ProgramParts}
use Rattle.ds2_code.specs.CodeRun.{CallFrame, MachineState, CodeEnd, Broken, Over, run_code}
use Rattle.ds2_code.specs.Desk.{Desk}
use Rattle.ds2_gen.specs.CodeCells.{Cells, kept_on, desk_of, Placement, HoldState, LeaveReserved}

-- these instructions stand in a list from this number on
abbrev pub StandsAt : List Instr → ℕ → List Instr → Type 0
StandsAt all at [] = Unit {0}
StandsAt all at (i ∷ is) = (slice_get all at ≡ Some i) × StandsAt all (at + 1) is

-- a run from this machine ends so
abbrev pub EndsWith : ProgramParts → MachineState → CodeEnd → Type 0
EndsWith code m e = (n : ℕ) × (run_code code n m ≡ Over n e)

-- a run from the first machine comes to the second: it ends as a run from there ends
pub record LeadsOnTo (code : ProgramParts) (m u : MachineState) : Type 0 where
  pub by : (e : CodeEnd) → EndsWith code u e → EndsWith code m e

-- a machine at an instruction, by its parts
abbrev pub machine_at : ℕ → Desk → List CallFrame → Progress → MachineState
machine_at at desk frames progress = record { at = at; desk = desk; frames = frames; progress = progress }

-- a run from this machine comes to an instruction of the same frame with these operands, above cells that hold the state; the
-- reserved cells are as they were, the progress is the state's, and no more of the budget is left than before
pub record ComesTo (code : ProgramParts) (p : Placement) (kept : ℕ) (m : MachineState) (at : ℕ) (stack : Row) (w : RunState) : Type 0 where
  pub cells : Cells
  pub holds : HoldState p w cells
  pub reserved : LeaveReserved p kept (kept_on m.desk) cells
  pub left : w.progress.left ≤ m.progress.left
  pub leads : LeadsOnTo code m (machine_at at (desk_of stack cells) m.frames w.progress)

-- the code of an expression: its value comes above the operands below, or its fault ends the run
abbrev pub EvaluatesTo : ProgramParts → Placement → ℕ → MachineState → ℕ → Row → ExpressionEnd → Type 0
EvaluatesTo code p kept m to below (Gives v w) = ComesTo code p kept m to (v ∷ below) w
EvaluatesTo code p kept m to below (Breaks f w) = EndsWith code m (Broken f w.progress)

-- how a body is returned from: by a jump to its end in a unit, by an instruction that goes back to the caller, with a result or
-- without one, in a method
pub data ReturnWay : Type 0 where
  JumpsToEnd : ℕ → ReturnWay
  HandsBack : (has_result : Bool) → ReturnWay

-- where the statements of a body go on that do not simply end: behind the innermost loop, at its next round, or out of the body
pub record ExitPoints : Type 0 where
  pub leave : ℕ
  pub continue : ℕ
  pub return : ReturnWay

-- a return of a value: the run comes to the end of the unit, or to an instruction that goes back, with the value where it hands
-- one back
abbrev pub ReturnsBy : ReturnWay → ProgramParts → Placement → ℕ → MachineState → Value → RunState → Type 0
ReturnsBy (JumpsToEnd end) code p kept m v w = ComesTo code p kept m end [] w
ReturnsBy (HandsBack true) code p kept m v w = (at : ℕ) × (slice_get code.instrs at ≡ Some RetV) × ComesTo code p kept m at (v ∷ []) w
ReturnsBy (HandsBack false) code p kept m v w = (at : ℕ) × (slice_get code.instrs at ≡ Some Ret) × ComesTo code p kept m at [] w

-- the code of a statement: it comes to its end or to one of the exits, or its fault ends the run
abbrev pub CarriesOut : ProgramParts → Placement → ℕ → MachineState → ℕ → ExitPoints → StatementOutcome → Type 0
CarriesOut code p kept m to exits (Proceeds w) = ComesTo code p kept m to [] w
CarriesOut code p kept m to exits (Leaves w) = ComesTo code p kept m exits.leave [] w
CarriesOut code p kept m to exits (Continues w) = ComesTo code p kept m exits.continue [] w
CarriesOut code p kept m to exits (Returns v w) = ReturnsBy exits.return code p kept m v w
CarriesOut code p kept m to exits (Faults f w) = EndsWith code m (Broken f w.progress)
