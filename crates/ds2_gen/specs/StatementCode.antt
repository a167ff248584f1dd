-- The instructions of a statement, which begin at a number of the list: the targets of its jumps are numbers of the list.
use Rattle.std.specs.Prelude.{ℕ, ◌+◌, max, Bool, true, false, if◌then◌else◌, List, [], ◌∷◌, ◌++◌, length, Option, Some, None, pos}
use Rattle.ds2_base.specs.Characters.{char_count}
use Rattle.ds2_base.specs.declared.place.Place.{Place}
use Rattle.ds2_value.specs.declared.comparison.Comparison.{Comparison}
use Rattle.ds2_value.specs.declared.comparison.Comparison.TheVariants.{Equal, Less, LessOrEqual, GreaterOrEqual}
use Rattle.ds2_value.specs.declared.ty.Ty.{Ty}
use Rattle.ds2_value.specs.declared.ty.Ty.TheVariants.{BigInt, Varchar}
use Rattle.ds2_value.specs.declared.value.Value.TheVariants.{Int, Txt}
use Rattle.ds2_meaning.specs.declared.location.Global.TheVariants.{Parameter}
use Rattle.ds2_meaning.specs.declared.location.Reference.{Reference}
use Rattle.ds2_meaning.specs.Evaluation.{callee_home}
use Rattle.ds2_meaning.specs.IsTyped.{class_of, expression_type}
use Rattle.ds2_meaning.specs.Location.{Home}
use Rattle.ds2_meaning.specs.TypedExpression.{TypedExpression, TypedExpressions, NoExpression, Then, TypedArguments}
use Rattle.ds2_meaning.specs.TypedStatement.{TypedStatement, Empty, Assign, Invoke, Evaluate, SetParameters, ParameterValue, Construct, Leave, Continue, Return, ReturnValue, Output, Put, If, IfElse, Select, SelectValue, Block, Count, While, Until, TypedStatements, Finish, Next, TypedWhens, NoOtherwise, Otherwise, When, Item, Text, Shown, Labelled}
use Rattle.ds2_code.specs.declared.instr.Instr.{Instr}
use Rattle.ds2_code.specs.declared.instr.Instr.TheVariants as instr
use Rattle.ds2_gen.specs.CodeCells.{GlobalAt, CodeCell}
use Rattle.ds2_gen.specs.CodePieces.{ExitPoints, ReturnWay, JumpsToEnd, HandsBack}
use Rattle.ds2_gen.specs.ExpressionCode.{Callee, CodeNumbers, constant_instr, load_instr, cell_of, store_instr, comparison_instr, expression_code, method_call_code, condition_code}

-- `return` without a value
abbrev pub return_instr : ReturnWay → Instr
return_instr (JumpsToEnd end) = instr.Jump end
return_instr (HandsBack true) = instr.RetV
return_instr (HandsBack false) = instr.Ret

-- the type of a text constant
abbrev pub text_type : List ℕ → Ty
text_type t = Varchar (max 1 (char_count t))

-- a name before its value in a line
abbrev pub label_of : List ℕ → List ℕ
label_of name = name ++ 61 ∷ []

-- the result of a call as a statement is dropped, where the method has one
abbrev pub drop_code : Option Callee → List Instr
drop_code None = []
drop_code (Some callee) = if callee.has_result then instr.DropTop ∷ [] else []

-- a row to each of these outputs
abbrev pub outputs_code : List ℕ → List Instr
outputs_code [] = []
outputs_code (n ∷ ns) = instr.Output n ∷ outputs_code ns

-- `if` without an else part: its step, its condition, and the statement, past which it jumps where the condition does not hold
abbrev pub one_way_code : Place → List Instr → ℕ → List Instr → List Instr
one_way_code place condition end on = instr.Tick place ∷ (condition ++ (instr.JFalse end ∷ on))

-- `if` with an else part: the first statement jumps past the second one
abbrev pub two_way_code : Place → List Instr → ℕ → List Instr → ℕ → List Instr → List Instr
two_way_code place condition other on end off = instr.Tick place ∷ (condition ++ (instr.JFalse other ∷ (on ++ (instr.Jump end ∷ off))))

-- `do while`: its own step, and then the step of its test, the test, the body, and a jump back to the step of the test
abbrev pub while_code : Place → ℕ → List Instr → ℕ → List Instr → List Instr
while_code place test condition end body =
    instr.Tick place ∷ instr.Tick place ∷ (condition ++ (instr.JFalse end ∷ (body ++ instr.Jump test ∷ [])))

-- `do until`: its own step, the body, the step of its test, and the test, from which it goes back to the body
abbrev pub until_code : Place → ℕ → List Instr → List Instr → List Instr
until_code place first body condition = instr.Tick place ∷ (body ++ (instr.Tick place ∷ (condition ++ instr.JFalse first ∷ [])))

-- what the tests of a `select` are: conditions, or values that are compared with a kept value of a type
pub data Subject : Type 0 where
  Conditions : Subject
  EqualTo : (kept : ℕ) → Ty → Subject

-- whether they are values that are compared
abbrev pub compares : Subject → Bool
compares Conditions = false
compares (EqualTo kept ty) = true

-- how many values a counted loop keeps of its step
abbrev pub step_keeps : Option TypedExpression → ℕ
step_keeps None = 0
step_keeps (Some e) = 1

-- the number of its end among the kept values: the step, where one was given, is kept under the first number, and the end behind it
abbrev pub end_number : ℕ → Option TypedExpression → ℕ
end_number kept step = kept + step_keeps step

-- how many instructions the test of a counted loop has
abbrev pub count_test_size : Option TypedExpression → ℕ
count_test_size None = 4
count_test_size (Some e) = 17

abbrev mutual
  -- how many values the code of a statement keeps
  pub values_kept : TypedStatement → ℕ
  values_kept (If place condition on) = values_kept on
  values_kept (IfElse place condition on off) = values_kept on + values_kept off
  values_kept (Select place whens) = whens_keep whens
  values_kept (SelectValue place value whens) = 1 + whens_keep whens
  values_kept (Block place body) = statements_keep body
  values_kept (Count place variable start end step body) = step_keeps step + 1 + statements_keep body
  values_kept (While place condition body) = statements_keep body
  values_kept (Until place condition body) = statements_keep body
  values_kept _ = 0

  -- how many that of several statements keeps
  pub statements_keep : TypedStatements → ℕ
  statements_keep Finish = 0
  statements_keep (Next first rest) = values_kept first + statements_keep rest

  -- how many that of the parts of a `select` keeps
  pub whens_keep : TypedWhens → ℕ
  whens_keep NoOtherwise = 0
  whens_keep (Otherwise s) = values_kept s
  whens_keep (When tests s rest) = values_kept s + whens_keep rest

module _ (numbers : CodeNumbers) where
  -- the text of an item of a line
  abbrev pub item_code : Item → List Instr
  item_code (Text t) = constant_instr numbers (Txt t) (text_type t) ∷ []
  item_code (Shown e) = expression_code numbers e ++ instr.Show ∷ []
  item_code (Labelled name e) =
      constant_instr numbers (Txt (label_of name)) (text_type (label_of name)) ∷ (expression_code numbers e ++ instr.Show ∷ instr.Cat ∷ [])

  -- the texts of the items of a line, in order
  abbrev pub items_code : List Item → List Instr
  items_code [] = []
  items_code (item ∷ items) = item_code item ++ items_code items

  -- a call of a method of a home as a statement
  abbrev pub invoke_code : Home → ℕ → TypedArguments → List Instr
  invoke_code home method arguments = method_call_code numbers home method arguments ++ drop_code (numbers.callee home method)

  -- a call of the constructor of an instance, where its package has one
  abbrev pub construct_code : List ℕ → Option ℕ → TypedArguments → List Instr
  construct_code instance None arguments = []
  construct_code instance (Some method) arguments = invoke_code (Some instance) method arguments

  -- where a parameter of an instance of a thread program is kept
  abbrev pub parameter_cell : List ℕ → List ℕ → Option CodeCell
  parameter_cell instance parameter = numbers.placement.cell (GlobalAt (record { home = Some instance; global = Parameter parameter }))

  -- the parameters of an instance of a thread program get their values, one after the other
  abbrev pub parameters_code : List ℕ → List ParameterValue → List Instr
  parameters_code instance [] = []
  parameters_code instance (p ∷ ps) = expression_code numbers p.value ++ (store_instr (parameter_cell instance p.parameter) ∷ parameters_code instance ps)

  -- how many instructions a condition has
  abbrev pub condition_size : TypedExpression → ℕ
  condition_size e = length (condition_code numbers e)

  -- loads a kept value of this type
  abbrev pub load_kept : ℕ → Ty → Instr
  load_kept n ty = load_instr (Some (numbers.placement.kept_cell n)) ty

  -- pops a value that is kept from now on
  abbrev pub store_kept : ℕ → Instr
  store_kept n = store_instr (Some (numbers.placement.kept_cell n))

  -- whether a kept value of this type is equal to an expression
  abbrev pub equality_code : ℕ → Ty → TypedExpression → List Instr
  equality_code n ty e = load_kept n ty ∷ (expression_code numbers e ++ comparison_instr (class_of ty) Equal ∷ [])

  -- a test of a `when`
  abbrev pub test_code : Subject → TypedExpression → List Instr
  test_code Conditions e = condition_code numbers e
  test_code (EqualTo n ty) e = equality_code n ty e

  -- how many instructions a test has, of a condition or of a value that is compared
  abbrev pub test_size : (compared : Bool) → TypedExpression → ℕ
  test_size false e = condition_size e
  test_size true e = 1 + length (expression_code numbers e) + 1

  -- how many instructions the tests of a `when` have, with the jumps behind them
  abbrev pub tests_size : (compared : Bool) → TypedExpressions → ℕ
  tests_size compared NoExpression = 1
  tests_size compared (Then e NoExpression) = test_size compared e + 1
  tests_size compared (Then e (Then f rest)) = test_size compared e + 1 + tests_size compared (Then f rest)

  -- the tests of a `when`, in order: where one holds it goes on behind them all, with its statement, and else elsewhere
  abbrev pub tests_code : Subject → ℕ → ℕ → TypedExpressions → List Instr
  tests_code subject on off NoExpression = instr.Jump off ∷ []
  tests_code subject on off (Then e NoExpression) = test_code subject e ++ instr.JFalse off ∷ []
  tests_code subject on off (Then e (Then f rest)) = test_code subject e ++ (instr.JTrue on ∷ tests_code subject on off (Then f rest))

  -- the step of a counted loop, where one was given, and how many instructions it has
  abbrev pub step_code : Option TypedExpression → List Instr
  step_code None = []
  step_code (Some e) = expression_code numbers e

  -- the step of a counted loop is kept, where one was given
  abbrev pub keep_step_code : ℕ → Option TypedExpression → List Instr
  keep_step_code kept None = []
  keep_step_code kept (Some e) = store_kept kept ∷ []

  -- pushes what a counted loop adds: its kept step, or 1
  abbrev pub step_instr : ℕ → Option TypedExpression → Instr
  step_instr kept None = constant_instr numbers (Int (pos 1)) BigInt
  step_instr kept (Some e) = load_kept kept BigInt

  -- the step of a further round: the variable gets the sum
  abbrev pub advance_code : Place → Reference → Instr → List Instr
  advance_code place variable step =
      instr.Tick place ∷ load_instr (cell_of numbers variable) BigInt ∷ step ∷ instr.IAdd ∷ store_instr (cell_of numbers variable) ∷ []

  -- compares the variable of a counted loop with its kept end, in front of what follows
  abbrev pub bound_code : Reference → ℕ → Comparison → List Instr → List Instr
  bound_code variable end comparison next =
      load_instr (cell_of numbers variable) BigInt ∷ load_kept end BigInt ∷ instr.ICmp comparison ∷ next

  -- compares its kept step with 0
  abbrev pub step_sign_code : ℕ → Comparison → List Instr → List Instr
  step_sign_code step comparison next = load_kept step BigInt ∷ constant_instr numbers (Int (pos 0)) BigInt ∷ instr.ICmp comparison ∷ next

  -- the test of a counted loop whose step is not at least 0: back to its body where the step is below 0 and the variable at least the
  -- end
  abbrev pub falling_test_code : (out first : ℕ) → Reference → (step end : ℕ) → List Instr
  falling_test_code out first variable step end = step_sign_code step Less (instr.JFalse out ∷ bound_code variable end GreaterOrEqual (instr.JTrue first ∷ []))

  -- the test of a counted loop, which begins at a number: back to its body, or on behind the test
  abbrev pub count_test_code : (at first : ℕ) → Reference → (kept : ℕ) → Option TypedExpression → List Instr
  count_test_code at first variable kept None = bound_code variable (end_number kept None) LessOrEqual (instr.JTrue first ∷ [])
  count_test_code at first variable kept (Some e) =
      step_sign_code kept GreaterOrEqual (instr.JFalse (at + 9) ∷ bound_code variable (end_number kept (Some e)) LessOrEqual (instr.JTrue first
      ∷ (instr.Jump (at + 17) ∷ falling_test_code (at + 17) first variable kept (end_number kept (Some e)))))

  -- the start, end and step of a counted loop
  abbrev pub count_values_code : TypedExpression → TypedExpression → Option TypedExpression → List Instr
  count_values_code start end step = expression_code numbers start ++ (expression_code numbers end ++ step_code step)

  -- they are stored, and its first step begins
  abbrev pub count_begin_code : Place → Reference → ℕ → Option TypedExpression → ℕ → List Instr
  count_begin_code place variable kept step test =
      keep_step_code kept step ++ (store_kept (end_number kept step) ∷ store_instr (cell_of numbers variable) ∷ instr.Tick place ∷ instr.Jump test ∷ [])

  abbrev mutual
    -- how many instructions a statement has
    pub statement_size : TypedStatement → ℕ
    statement_size (Empty place) = 1
    statement_size (Assign place variable e) = 1 + length (expression_code numbers e) + 1
    statement_size (Evaluate place e) = 1 + length (expression_code numbers e) + 1
    statement_size (Leave place) = 2
    statement_size (Continue place) = 2
    statement_size (Return place) = 2
    statement_size (ReturnValue place e) = 1 + length (expression_code numbers e) + 1
    statement_size (Output place outputs) = 1 + length (outputs_code outputs)
    statement_size (Put place items) = 1 + length (items_code items) + 1
    statement_size (If place condition on) = 1 + condition_size condition + 1 + statement_size on
    statement_size (IfElse place condition on off) = 1 + condition_size condition + 1 + statement_size on + 1 + statement_size off
    statement_size (Block place body) = 1 + statements_size body
    statement_size (While place condition body) = 2 + condition_size condition + 1 + statements_size body + 1
    statement_size (Until place condition body) = 1 + statements_size body + 1 + condition_size condition + 1
    statement_size (Select place whens) = 1 + whens_size false whens
    statement_size (SelectValue place value whens) = 1 + length (expression_code numbers value) + 1 + whens_size true whens
    statement_size (Count place variable start end step body) =
        1 + length (count_values_code start end step) + (step_keeps step + 4) + statements_size body + (5 + count_test_size step)
    statement_size (Invoke place instance method arguments) = 1 + length (invoke_code (callee_home numbers.home instance) method arguments)
    statement_size (SetParameters place instance values) = 1 + length (parameters_code instance values)
    statement_size (Construct place instance method arguments) = 1 + length (construct_code instance method arguments)

    -- how many instructions statements have
    pub statements_size : TypedStatements → ℕ
    statements_size Finish = 0
    statements_size (Next first rest) = statement_size first + statements_size rest

    -- how many instructions the parts of a `select` have
    pub whens_size : (compared : Bool) → TypedWhens → ℕ
    whens_size compared NoOtherwise = 1
    whens_size compared (Otherwise s) = statement_size s
    whens_size compared (When tests s rest) = tests_size compared tests + statement_size s + 1 + whens_size compared rest

  abbrev mutual
    -- the instructions of a statement
    pub statement_code : ℕ → ℕ → ExitPoints → TypedStatement → List Instr
    statement_code at kept exits (Empty place) = instr.Tick place ∷ []
    statement_code at kept exits (Assign place variable e) =
        instr.Tick place ∷ (expression_code numbers e ++ store_instr (cell_of numbers variable) ∷ [])
    statement_code at kept exits (Evaluate place e) = instr.Tick place ∷ (expression_code numbers e ++ instr.DropTop ∷ [])
    statement_code at kept exits (Leave place) = instr.Tick place ∷ instr.Jump exits.leave ∷ []
    statement_code at kept exits (Continue place) = instr.Tick place ∷ instr.Jump exits.continue ∷ []
    statement_code at kept exits (Return place) = instr.Tick place ∷ return_instr exits.return ∷ []
    statement_code at kept exits (ReturnValue place e) = instr.Tick place ∷ (expression_code numbers e ++ instr.RetV ∷ [])
    statement_code at kept exits (Output place outputs) = instr.Tick place ∷ outputs_code outputs
    statement_code at kept exits (Put place items) = instr.Tick place ∷ (items_code items ++ instr.Put (length items) ∷ [])
    statement_code at kept exits (If place condition on) =
        let first = at + 1 + condition_size condition + 1 in
        one_way_code place (condition_code numbers condition) (first + statement_size on) (statement_code first kept exits on)
    statement_code at kept exits (IfElse place condition on off) =
        let first = at + 1 + condition_size condition + 1 in
        let other = first + statement_size on + 1 in
        two_way_code place (condition_code numbers condition) other (statement_code first kept exits on) (other + statement_size off) (statement_code other (kept + values_kept on) exits off)
    statement_code at kept exits (Block place body) = instr.Tick place ∷ statements_code (at + 1) kept exits body
    statement_code at kept exits (While place condition body) =
        let first = at + 2 + condition_size condition + 1 in
        let end = first + statements_size body + 1 in
        while_code place (at + 1) (condition_code numbers condition) end
        (statements_code first kept (record { leave = end; continue = at + 1; return = exits.return }) body)
    statement_code at kept exits (Until place condition body) =
        let test = at + 1 + statements_size body in
        let end = test + 1 + condition_size condition + 1 in
        until_code place (at + 1) (statements_code (at + 1) kept (record { leave = end; continue = test; return = exits.return }) body)
        (condition_code numbers condition)
    statement_code at kept exits (Select place whens) = instr.Tick place ∷ whens_code (at + 1) kept (at + 1 + whens_size false whens) exits Conditions whens
    statement_code at kept exits (SelectValue place value whens) =
        let first = at + 1 + length (expression_code numbers value) + 1 in
        let subject = EqualTo kept (expression_type value) in
        instr.Tick place ∷ (expression_code numbers value ++ (store_kept kept ∷ whens_code first (kept + 1) (first + whens_size true whens) exits subject whens))
    statement_code at kept exits (Count place variable start end step body) =
        let first = at + 1 + length (count_values_code start end step) + (step_keeps step + 4) in
        let again = first + statements_size body in
        let test = again + 5 in
        instr.Tick place ∷ (count_values_code start end step ++ (count_begin_code place variable kept step test
        ++ (statements_code first (end_number kept step + 1) (record { leave = test + count_test_size step; continue = again; return = exits.return }) body
        ++ (advance_code place variable (step_instr kept step) ++ count_test_code test first variable kept step))))
    statement_code at kept exits (Invoke place instance method arguments) = instr.Tick place ∷ invoke_code (callee_home numbers.home instance) method arguments
    statement_code at kept exits (SetParameters place instance values) = instr.Tick place ∷ parameters_code instance values
    statement_code at kept exits (Construct place instance method arguments) = instr.Tick place ∷ construct_code instance method arguments

    -- the instructions of statements, one after the other
    pub statements_code : ℕ → ℕ → ExitPoints → TypedStatements → List Instr
    statements_code at kept exits Finish = []
    statements_code at kept exits (Next first rest) = statement_code at kept exits first ++ statements_code (at + statement_size first) (kept + values_kept first) exits rest

    -- the instructions of the parts of a `select`: each statement but the last one jumps to the end
    pub whens_code : ℕ → ℕ → ℕ → ExitPoints → Subject → TypedWhens → List Instr
    whens_code at kept end exits subject NoOtherwise = instr.NoWhen ∷ []
    whens_code at kept end exits subject (Otherwise s) = statement_code at kept exits s
    whens_code at kept end exits subject (When tests s rest) =
        let first = at + tests_size (compares subject) tests in
        let next = first + statement_size s + 1 in
        tests_code subject first next tests ++ (statement_code first kept exits s ++ (instr.Jump end ∷ whens_code next (kept + values_kept s) end exits subject rest))
