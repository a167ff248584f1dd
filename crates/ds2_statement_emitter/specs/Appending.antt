-- Code to which statements and their parts are appended.
use Rattle.std.specs.Prelude.{ℕ, ◌+◌, Bool, true, false, List, [], ◌∷◌, ◌++◌, length, slice_set, Option, Some, None}
use Rattle.ds2_base.specs.declared.place.Place.{Place}
use Rattle.ds2_meaning.specs.Evaluation.{callee_home}
use Rattle.ds2_meaning.specs.TypedExpression.{TypedExpression, TypedExpressions, NoExpression, Then}
use Rattle.ds2_meaning.specs.TypedStatement.{TypedStatement, TypedStatements, TypedWhens, Item, ParameterValue}
use Rattle.ds2_meaning.specs.View.{CallTree}
use Rattle.ds2_code.specs.declared.instr.Instr.{Instr}
use Rattle.ds2_code.specs.declared.instr.Instr.TheVariants as instr
use Rattle.ds2_gen.specs.CodePieces.{ExitPoints}
use Rattle.ds2_gen.specs.ExpressionCode.{CodeNumbers, condition_code}
use Rattle.ds2_gen.specs.StatementCode.{Subject, Conditions, EqualTo, outputs_code, items_code, parameters_code, invoke_code, test_code, step_code, values_kept, statement_code, statements_code, whens_code}
use Rattle.ds2_emitter.specs.Emit.{with_instruction}
use Rattle.ds2_statement_emitter.specs.Marks.{body_mark}
use Rattle.ds2_statement_emitter.specs.declared.subject.Tested.{Tested}
use Rattle.ds2_statement_emitter.specs.declared.subject.Tested.TheVariants as tested

-- what the tests of a `select` are
abbrev pub subject_of : Tested → Subject
subject_of tested.Conditions = Conditions
subject_of (tested.EqualTo kept ty) = EqualTo kept ty

-- ---- statements

-- the code of a statement, which begins where the code so far ends
unfoldable pub with_statement : CodeNumbers → ℕ → ExitPoints → TypedStatement → List Instr → List Instr
with_statement n kept exits s code = code ++ statement_code n (length code) kept exits s

-- the code of statements in order
unfoldable pub with_statements : CodeNumbers → ℕ → ExitPoints → TypedStatements → List Instr → List Instr
with_statements n kept exits ss code = code ++ statements_code n (length code) kept exits ss

-- the code of the parts of a `select`, whose statements jump to an end
unfoldable pub with_whens : CodeNumbers → ℕ → ℕ → ExitPoints → Subject → TypedWhens → List Instr → List Instr
with_whens n kept end exits subject whens code = code ++ whens_code n (length code) kept end exits subject whens

-- ---- parts of statements

-- instructions one behind the other
abbrev pub with_all : List Instr → List Instr → List Instr
with_all [] code = code
with_all (i ∷ is) code = with_all is (with_instruction i code)

-- the code of a condition
unfoldable pub with_condition : CodeNumbers → TypedExpression → List Instr → List Instr
with_condition n e code = code ++ condition_code n e

-- the code of the texts of a line
unfoldable pub with_items : CodeNumbers → List Item → List Instr → List Instr
with_items n items code = code ++ items_code n items

-- the code of rows to outputs
unfoldable pub with_outputs : List ℕ → List Instr → List Instr
with_outputs outputs code = code ++ outputs_code outputs

-- the code of the values of parameters of a thread program
unfoldable pub with_parameter_values : CodeNumbers → List ℕ → List ParameterValue → List Instr → List Instr
with_parameter_values n instance values code = code ++ parameters_code n instance values

-- the code of a call as a statement
unfoldable pub with_invoked : CodeNumbers → CallTree → List Instr → List Instr
with_invoked n call code = code ++ invoke_code n (callee_home n.home call.instance) call.method call.arguments

-- the code of the step of a counted loop
unfoldable pub with_loop_step : CodeNumbers → Option TypedExpression → List Instr → List Instr
with_loop_step n step code = code ++ step_code n step

-- a condition, and a jump where it does not hold, which is left open
abbrev pub with_open_jump : CodeNumbers → TypedExpression → List Instr → List Instr
with_open_jump n condition code = with_instruction (instr.JFalse 0) (with_condition n condition code)

-- the number of this jump
abbrev pub open_jump : CodeNumbers → TypedExpression → List Instr → ℕ
open_jump n condition code = length (with_condition n condition code)

-- the instructions of a test at a place: its step, and its condition with the jump
abbrev pub with_open_test : CodeNumbers → Place → TypedExpression → List Instr → List Instr
with_open_test n place condition code = with_open_jump n condition (with_instruction (instr.Tick place) code)

-- the number of the jump of an open test
abbrev pub open_test_jump : CodeNumbers → Place → TypedExpression → List Instr → ℕ
open_test_jump n place condition code = open_jump n condition (with_instruction (instr.Tick place) code)

-- a jump where a condition does not hold, or, where there is none, in any case
abbrev pub off_instr : (always : Bool) → ℕ → Instr
off_instr true to = instr.Jump to
off_instr false to = instr.JFalse to

-- a jump that was left open leads behind the code
unfoldable pub with_off : (always : Bool) → ℕ → List Instr → List Instr
with_off always hole code = slice_set code hole (off_instr always (length code))

-- ---- the parts of a chain of `if` and `else if`

-- a part of a chain: its condition and its statement
pub record IfPart : Type 0 where
  pub place : Place
  pub condition : TypedExpression
  pub on : TypedStatement

-- the rest of a chain behind a part whose test jumps from a place that was left open; the parts before the last one jump to an end
abbrev pub with_rest : CodeNumbers → ExitPoints → ℕ → ℕ → ℕ → List IfPart → Option TypedStatement → List Instr → List Instr
with_rest n exits end kept hole [] None code = with_off false hole code
with_rest n exits end kept hole [] (Some s) code = with_statement n kept exits s (with_off false hole (with_instruction (instr.Jump end) code))
with_rest n exits end kept hole (p ∷ ps) o code =
    let next = with_off false hole (with_instruction (instr.Jump end) code) in
    with_rest n exits end (kept + values_kept p.on) (open_test_jump n p.place p.condition next) ps o (with_statement n kept exits p.on (with_open_test n p.place p.condition next))

-- how many values the code of the rest of a chain keeps
abbrev pub rest_keeps : List IfPart → Option TypedStatement → ℕ
rest_keeps [] None = 0
rest_keeps [] (Some s) = values_kept s
rest_keeps (p ∷ ps) o = values_kept p.on + rest_keeps ps o

-- ---- the tests of a `when`

-- the further tests of a `when`, each behind a jump to its statement
abbrev pub further_tests : CodeNumbers → Subject → ℕ → TypedExpressions → List Instr
further_tests n subject on NoExpression = []
further_tests n subject on (Then e rest) = instr.JTrue on ∷ (test_code n subject e ++ further_tests n subject on rest)

-- the tests of a `when` without the jump behind them
abbrev pub open_tests : CodeNumbers → Subject → ℕ → TypedExpressions → List Instr
open_tests n subject on NoExpression = []
open_tests n subject on (Then e rest) = test_code n subject e ++ further_tests n subject on rest

-- whether there is no test
abbrev pub has_no_test : TypedExpressions → Bool
has_no_test NoExpression = true
has_no_test (Then e rest) = false

-- the code of a test
unfoldable pub with_when_test : CodeNumbers → Subject → TypedExpression → List Instr → List Instr
with_when_test n subject e code = code ++ test_code n subject e

-- the code of further tests of a `when`
unfoldable pub with_further_tests : CodeNumbers → Subject → ℕ → TypedExpressions → List Instr → List Instr
with_further_tests n subject on tests code = code ++ further_tests n subject on tests

-- the code of the tests of a `when` without the jump behind them
unfoldable pub with_open_tests : CodeNumbers → Subject → ℕ → TypedExpressions → List Instr → List Instr
with_open_tests n subject on tests code = code ++ open_tests n subject on tests

-- the number behind the tests of a `when`
abbrev pub open_tests_end : CodeNumbers → Subject → TypedExpressions → List Instr → ℕ
open_tests_end n subject tests code = length (with_open_tests n subject body_mark tests code)
