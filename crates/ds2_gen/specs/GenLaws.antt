-- What is proved of the instructions of expressions and statements, and of how many are executed.
use Rattle.std.specs.Prelude.{◌≡◌, ◌≤◌, ◌+◌, ℕ, List, [], length}
use Rattle.ds2_value.specs.Progress.{UnitOutcome, Completed, Interrupted, Strayed}
use Rattle.ds2_value.specs.Run.{Event}
use Rattle.ds2_value.specs.Row.{Row}
use Rattle.ds2_meaning.specs.Evaluation.{Surroundings, evaluate}
use Rattle.ds2_meaning.specs.Execution.{exec}
use Rattle.ds2_meaning.specs.Location.{Storage}
use Rattle.ds2_meaning.specs.RunState.{RunState}
use Rattle.ds2_meaning.specs.TypedExpression.{TypedExpression}
use Rattle.ds2_meaning.specs.TypedStatement.{TypedStatement}
use Rattle.ds2_code.specs.declared.parts.ProgramParts.{ProgramParts}
use Rattle.ds2_code.specs.CodeLaws.{unit_executed}
use Rattle.ds2_code.specs.CodeRun.{CallFrame}
use Rattle.ds2_code.specs.CodeUnit.{code_unit}
use Rattle.ds2_code.specs.Desk.{ProgramData}
use Rattle.ds2_gen.specs.CallPieces.{IsAround}
use Rattle.ds2_gen.specs.CodeCells.{Cells, desk_of, Placement, HoldState}
use Rattle.ds2_gen.specs.CodePieces.{StandsAt, machine_at, EvaluatesTo, ExitPoints, CarriesOut}
use Rattle.ds2_gen.specs.ExpressionCode.{CodeNumbers, expression_code}
use Rattle.ds2_gen.specs.StatementCode.{values_kept, statement_size, statement_code}
use Rattle.ds2_gen.specs.CoveredForms.{IsCoveredExpression, IsCoveredStatement}
use Rattle.ds2_gen.specs.UnitCode.{EndsAlike}

-- wherever the code of a covered expression stands, and whatever state its cells hold there, while its calls do what the meaning's do,
-- the run comes behind the code with the value of the expression above the operands, or ends with its fault, with the meaning's way,
-- place and budget left
abbrev pub ExpressionsEvaluate : Type 0
ExpressionsEvaluate =
    (code : ProgramParts) (numbers : CodeNumbers) (s : Surroundings) (kept : ℕ) (e : TypedExpression) (at : ℕ) (stack : Row) (cells : Cells) (frames : List CallFrame) (w : RunState)
    → IsAround code numbers s frames → IsCoveredExpression code numbers e
    → StandsAt code.instrs at (expression_code numbers e) → HoldState numbers.placement w cells
    → EvaluatesTo code numbers.placement kept (machine_at at (desk_of stack cells) frames w.progress) (at + length (expression_code numbers e)) stack (evaluate s e w)

-- wherever the code of a covered statement stands, and whatever state its cells hold there below no operands, while its calls do what
-- the meaning's do, the run comes behind the code, or to one of the exits, as the statement ends, or ends with its fault, with the
-- meaning's rows, lines, way, place and budget left
abbrev pub StatementsAreCarriedOut : Type 0
StatementsAreCarriedOut =
    (code : ProgramParts) (numbers : CodeNumbers) (s : Surroundings) (kept : ℕ) (exits : ExitPoints) (statement : TypedStatement) (at : ℕ) (cells : Cells) (frames : List CallFrame) (w : RunState)
    → IsAround code numbers s frames → kept + values_kept statement ≤ numbers.placement.kept_count
    → IsCoveredStatement code numbers exits.return statement → StandsAt code.instrs at (statement_code numbers at kept exits statement) → HoldState numbers.placement w cells
    → CarriesOut code numbers.placement kept (machine_at at (desk_of [] cells) frames w.progress) (at + statement_size numbers statement) exits (exec s statement w)

-- the way of a unit, as the meaning has it
abbrev pub way_meant : UnitOutcome Storage → List Event
way_meant (Completed kept q none) = q.way
way_meant (Interrupted fault q none) = q.way
way_meant Strayed = []

-- two units from one entry that end as units mean whose ways are equal execute equally many instructions
abbrev pub WaysFixCounts : Type 0
WaysFixCounts =
    (code : ProgramParts) (p other : Placement) (entry budget another : ℕ) (state changed : ProgramData) (unit second : UnitOutcome Storage)
    → EndsAlike p state (code_unit code entry budget state) unit → EndsAlike other changed (code_unit code entry another changed) second
    → way_meant unit ≡ way_meant second
    → unit_executed (code_unit code entry budget state) ≡ unit_executed (code_unit code entry another changed)
