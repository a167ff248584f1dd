-- The size of a statement is the number of its instructions.
use Rattle.std.proofs.Common.{◌≡◌, ℕ, ◌+◌, true, false, [], ◌∷◌, ◌++◌, length, Option, Some, None, refl, arith, length-append}
use Rattle.ds2_base.specs.declared.place.Place.{Place}
use Rattle.ds2_value.specs.declared.comparison.Comparison.TheVariants.{Equal}
use Rattle.ds2_meaning.specs.declared.location.Reference.{Reference}
use Rattle.ds2_meaning.specs.IsTyped.{class_of, expression_type}
use Rattle.ds2_meaning.specs.TypedExpression.{TypedExpression, TypedExpressions, NoExpression, Then}
use Rattle.ds2_meaning.specs.TypedStatement.{TypedStatement, Empty, Assign, Invoke, Evaluate, SetParameters, Construct, Leave, Continue, Return, ReturnValue, Output, Put, If, IfElse, Select, SelectValue, Block, Count, While, Until, TypedStatements, Finish, Next, TypedWhens, NoOtherwise, Otherwise, When}
use Rattle.ds2_code.specs.declared.instr.Instr.TheVariants as instr
use Rattle.ds2_gen.specs.CodePieces.{ExitPoints}
use Rattle.ds2_gen.specs.ExpressionCode.{CodeNumbers, cell_of, comparison_instr, expression_code, condition_code, store_instr}
use Rattle.ds2_gen.specs.StatementCode.{Subject, Conditions, EqualTo, compares, step_keeps, count_test_size, values_kept, items_code, condition_size, store_kept, test_size, test_code, tests_size, tests_code, end_number, step_instr, advance_code, count_test_code, count_values_code, count_begin_code, statement_size, statements_size, whens_size, statement_code, statements_code, whens_code}

module _ (numbers : CodeNumbers) where
  pub test_size_is : (subject : Subject) (e : TypedExpression) → length (test_code numbers subject e) ≡ test_size numbers (compares subject) e
  test_size_is Conditions e = refl
  test_size_is (EqualTo n ty) e = omega (arith, length-append (expression_code numbers e) (comparison_instr (class_of ty) Equal ∷ []))

  pub tests_size_is : (subject : Subject) (on off : ℕ) (tests : TypedExpressions) → length (tests_code numbers subject on off tests) ≡ tests_size numbers (compares subject) tests
  tests_size_is subject on off NoExpression = refl
  tests_size_is subject on off (Then e NoExpression) = omega (arith, length-append (test_code numbers subject e) (instr.JFalse off ∷ []), test_size_is subject e)
  tests_size_is subject on off (Then e (Then f rest)) =
      omega (arith, length-append (test_code numbers subject e) (instr.JTrue on ∷ tests_code numbers subject on off (Then f rest)), test_size_is subject e, tests_size_is subject on off (Then f rest))

  pub begin_size_is : (place : Place) (variable : Reference) (kept : ℕ) (step : Option TypedExpression) (test : ℕ) → length (count_begin_code numbers place variable kept step test) ≡ step_keeps step + 4
  begin_size_is place variable kept None test = refl
  begin_size_is place variable kept (Some e) test = refl

  pub count_test_size_is : (at first : ℕ) (variable : Reference) (kept : ℕ) (step : Option TypedExpression) → length (count_test_code numbers at first variable kept step) ≡ count_test_size step
  count_test_size_is at first variable kept None = refl
  count_test_size_is at first variable kept (Some e) = refl

  mutual
    pub size_is : (at kept : ℕ) (exits : ExitPoints) (s : TypedStatement) → length (statement_code numbers at kept exits s) ≡ statement_size numbers s
    size_is at kept exits (Empty place) = refl
    size_is at kept exits (Assign place variable e) = omega (arith, length-append (expression_code numbers e) (store_instr (cell_of numbers variable) ∷ []))
    size_is at kept exits (Evaluate place e) = omega (arith, length-append (expression_code numbers e) (instr.DropTop ∷ []))
    size_is at kept exits (Leave place) = refl
    size_is at kept exits (Continue place) = refl
    size_is at kept exits (Return place) = refl
    size_is at kept exits (ReturnValue place e) = omega (arith, length-append (expression_code numbers e) (instr.RetV ∷ []))
    size_is at kept exits (If place condition on) =
        let first = at + 1 + condition_size numbers condition + 1 in
        let con = statement_code numbers first kept exits on in
        omega (arith, length-append (condition_code numbers condition) (instr.JFalse (first + statement_size numbers on) ∷ con), size_is first kept exits on)
    size_is at kept exits (IfElse place condition on off) =
        let first = at + 1 + condition_size numbers condition + 1 in
        let other = first + statement_size numbers on + 1 in
        let con = statement_code numbers first kept exits on in
        let tail = instr.Jump (other + statement_size numbers off) ∷ statement_code numbers other (kept + values_kept on) exits off in
        omega (arith, length-append (condition_code numbers condition) (instr.JFalse other ∷ (con ++ tail)), length-append con tail, size_is first kept exits on, size_is other (kept + values_kept on) exits off)
    size_is at kept exits (Block place body) = omega (arith, sizes_are (at + 1) kept exits body)
    size_is at kept exits (While place condition body) =
        let first = at + 2 + condition_size numbers condition + 1 in
        let end = first + statements_size numbers body + 1 in
        let within : ExitPoints = record { leave = end; continue = at + 1; return = exits.return } in
        let cb = statements_code numbers first kept within body in
        let tail = instr.Jump (at + 1) ∷ [] in
        omega (arith, length-append (condition_code numbers condition) (instr.JFalse end ∷ (cb ++ tail)), length-append cb tail, sizes_are first kept within body)
    size_is at kept exits (Until place condition body) =
        let test = at + 1 + statements_size numbers body in
        let end = test + 1 + condition_size numbers condition + 1 in
        let within : ExitPoints = record { leave = end; continue = test; return = exits.return } in
        let cb = statements_code numbers (at + 1) kept within body in
        let back = instr.JFalse (at + 1) ∷ [] in
        omega (arith, length-append cb (instr.Tick place ∷ (condition_code numbers condition ++ back)), length-append (condition_code numbers condition) back, sizes_are (at + 1) kept within body)
    size_is at kept exits (Invoke place instance method arguments) = omega arith
    size_is at kept exits (SetParameters place instance values) = omega arith
    size_is at kept exits (Construct place instance constructor arguments) = omega arith
    size_is at kept exits (Output place outputs) = omega arith
    size_is at kept exits (Put place items) = omega (arith, length-append (items_code numbers items) (instr.Put (length items) ∷ []))
    size_is at kept exits (Select place whens) =
        let end = at + 1 + whens_size numbers false whens in
        let rest : length (whens_code numbers (at + 1) kept end exits Conditions whens) ≡ whens_size numbers false whens = whens_size_is (at + 1) kept end exits Conditions whens in
        omega (arith, rest)
    size_is at kept exits (SelectValue place value whens) =
        let cv = expression_code numbers value in
        let first = at + 1 + length cv + 1 in
        let subject = EqualTo kept (expression_type value) in
        let end = first + whens_size numbers true whens in
        let rest : length (whens_code numbers first (kept + 1) end exits subject whens) ≡ whens_size numbers true whens = whens_size_is first (kept + 1) end exits subject whens in
        omega (arith, length-append cv (store_kept numbers kept ∷ whens_code numbers first (kept + 1) end exits subject whens), rest)
    size_is at kept exits (Count place variable start end step body) =
        let values = count_values_code numbers start end step in
        let first = at + 1 + length values + (step_keeps step + 4) in
        let again = first + statements_size numbers body in
        let test = again + 5 in
        let within : ExitPoints = record { leave = test + count_test_size step; continue = again; return = exits.return } in
        let begun = count_begin_code numbers place variable kept step test in
        let cb = statements_code numbers first (end_number kept step + 1) within body in
        let advance = advance_code numbers place variable (step_instr numbers kept step) in
        let tests = count_test_code numbers test first variable kept step in
        omega (
          arith,
          length-append values (begun ++ (cb ++ (advance ++ tests))),
          length-append begun (cb ++ (advance ++ tests)),
          length-append cb (advance ++ tests),
          length-append advance tests,
          begin_size_is place variable kept step test,
          count_test_size_is test first variable kept step,
          sizes_are first (end_number kept step + 1) within body,
        )

    pub sizes_are : (at kept : ℕ) (exits : ExitPoints) (ss : TypedStatements) → length (statements_code numbers at kept exits ss) ≡ statements_size numbers ss
    sizes_are at kept exits Finish = refl
    sizes_are at kept exits (Next first rest) =
        omega (arith, length-append (statement_code numbers at kept exits first) (statements_code numbers (at + statement_size numbers first) (kept + values_kept first) exits rest), size_is at kept exits first, sizes_are (at + statement_size numbers first) (kept + values_kept first) exits rest)

    whens_size_is : (at kept end : ℕ) (exits : ExitPoints) (subject : Subject) (whens : TypedWhens) → length (whens_code numbers at kept end exits subject whens) ≡ whens_size numbers (compares subject) whens
    whens_size_is at kept end exits subject NoOtherwise = refl
    whens_size_is at kept end exits subject (Otherwise t) = size_is at kept exits t
    whens_size_is at kept end exits subject (When tests t rest) =
        let first = at + tests_size numbers (compares subject) tests in
        let next = first + statement_size numbers t + 1 in
        let cs = statement_code numbers first kept exits t in
        let tail = instr.Jump end ∷ whens_code numbers next (kept + values_kept t) end exits subject rest in
        omega (arith, length-append (tests_code numbers subject first next tests) (cs ++ tail), length-append cs tail, tests_size_is subject first next tests, size_is first kept exits t, whens_size_is next (kept + values_kept t) end exits subject rest)
