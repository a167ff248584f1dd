-- The budget in the meaning: no statement raises it, and the bound by which loops are written says nothing.
use Rattle.std.specs.Prelude.{◌≡◌, ◌≤◌, ℕ, List, Option}
use Rattle.ds2_base.specs.declared.place.Place.{Place}
use Rattle.ds2_value.specs.declared.value.Value.{Value}
use Rattle.ds2_meaning.specs.declared.location.Reference.{Reference}
use Rattle.ds2_meaning.specs.Location.{Home}
use Rattle.ds2_meaning.specs.RunState.{RunState, ExpressionEnd, Gives, Breaks, StatementOutcome, Proceeds, Leaves, Continues, Returns, Faults, begin_step, then_value, store}
use Rattle.ds2_meaning.specs.Evaluation.{Surroundings, evaluate}
use Rattle.ds2_meaning.specs.Execution.{exec, exec_all, with_step_value, count_turn, count_loop, while_turn, while_loop, until_turn, until_loop}
use Rattle.ds2_meaning.specs.Invocation.{invoke}
use Rattle.ds2_meaning.specs.Method.{Declarations}
use Rattle.ds2_meaning.specs.TypedExpression.{TypedExpression}
use Rattle.ds2_meaning.specs.TypedStatement.{TypedStatement, TypedStatements, Count, While, Until}

-- what an expression leaves of the budget
abbrev pub left_by_expression : ExpressionEnd → ℕ
left_by_expression (Gives v w) = w.progress.left
left_by_expression (Breaks f w) = w.progress.left

-- what a statement leaves of the budget
abbrev pub left_by_statement : StatementOutcome → ℕ
left_by_statement (Proceeds w) = w.progress.left
left_by_statement (Leaves w) = w.progress.left
left_by_statement (Continues w) = w.progress.left
left_by_statement (Returns v w) = w.progress.left
left_by_statement (Faults f w) = w.progress.left

-- what a statement finds around it of these units, of whose methods so many may be under way
abbrev pub around : Declarations → ℕ → List (List (List ℕ)) → Home → Surroundings
around declared depth outputs home = record { calls = invoke declared depth; objects = declared.objects home; outputs = outputs; home = home }

-- no statement raises the budget, whatever methods it calls
abbrev pub NoStatementRaisesTheBudget : Type 0
NoStatementRaisesTheBudget =
    (declared : Declarations) (depth : ℕ) (outputs : List (List (List ℕ))) (home : Home) (statement : TypedStatement) (w : RunState)
    → left_by_statement (exec (around declared depth outputs home) statement w) ≤ w.progress.left

-- in these surroundings a loop is one turn and then the loop
pub record LoopsTurnIn (s : Surroundings) : Type 0 where
  -- do while: it begins as a step; its turn is a test, its body and then the loop
  pub while_begins : (place : Place) (condition : TypedExpression) (body : TypedStatements) (w : RunState)
      → exec s (While place condition body) w ≡ begin_step place w (while_loop s place condition (exec_all s body))
  pub while_turns : (place : Place) (condition : TypedExpression) (body : TypedStatements) (w : RunState)
      → while_loop s place condition (exec_all s body) w ≡ while_turn s place condition (exec_all s body) (while_loop s place condition (exec_all s body)) w
  -- do until: it begins as a step; its turn is its body, a test and then the loop
  pub until_begins : (place : Place) (condition : TypedExpression) (body : TypedStatements) (w : RunState)
      → exec s (Until place condition body) w ≡ begin_step place w (until_loop s place condition (exec_all s body))
  pub until_turns : (place : Place) (condition : TypedExpression) (body : TypedStatements) (w : RunState)
      → until_loop s place condition (exec_all s body) w ≡ until_turn s place condition (exec_all s body) (until_loop s place condition (exec_all s body)) w
  -- do i = a to b by c: it begins as a step, evaluates its three values once, sets its variable and begins its first test; its turn is a test, its body, a step, the addition and then the loop
  pub count_begins : (place : Place) (variable : Reference) (start end : TypedExpression) (step : Option TypedExpression) (body : TypedStatements) (w : RunState)
      → exec s (Count place variable start end step body) w
      ≡ begin_step place w (λ u. then_value (evaluate s start u) (λ a x. then_value (evaluate s end x) (λ b y.
      with_step_value s step y (λ c z. begin_step place (store s.home variable a z) (count_loop s place variable b c (exec_all s body))))))
  pub count_turns : (place : Place) (variable : Reference) (end : Value) (step : Option Value) (body : TypedStatements) (w : RunState)
      → count_loop s place variable end step (exec_all s body) w
      ≡ count_turn s place variable end step (exec_all s body) (count_loop s place variable end step (exec_all s body)) w

-- a loop is one turn and then the loop wherever it stands, so that the bound of its rounds says nothing
abbrev pub LoopsAreTheirTurns : Type 0
LoopsAreTheirTurns = (declared : Declarations) (depth : ℕ) (outputs : List (List (List ℕ))) (home : Home) → LoopsTurnIn (around declared depth outputs home)
