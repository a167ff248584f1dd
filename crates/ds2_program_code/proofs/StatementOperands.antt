-- The code of typed statements runs from no operand to none, and each of its jumps leads to where no operand stands.
use Rattle.std.proofs.Common.{◌≡◌, ℕ, suc, ◌+◌, ◌<◌, Bool, true, false, List, [], ◌∷◌, ◌++◌, length, slice_get, Option, Some, None, is_some, refl, sym, ap, ◌∙◌, subst, arith, length-append, if◌then◌else◌}
use Rattle.std.specs.Prelude.{pos}
use Rattle.std.specs.List.{AllByRecursion}
use Rattle.ds2_base.specs.declared.place.Place.{Place}
use Rattle.ds2_value.specs.declared.comparison.Comparison.{Comparison}
use Rattle.ds2_value.specs.declared.comparison.Comparison.TheVariants.{Less, LessOrEqual, GreaterOrEqual}
use Rattle.ds2_value.specs.declared.ty.Ty.{Ty}
use Rattle.ds2_value.specs.declared.ty.Ty.TheVariants.{BigInt}
use Rattle.ds2_value.specs.declared.value.Value.TheVariants.{Int}
use Rattle.ds2_meaning.specs.declared.globals.Variable as global_variable
use Rattle.ds2_meaning.specs.declared.location.Reference.{Reference}
use Rattle.ds2_meaning.specs.Evaluation.{callee_home}
use Rattle.ds2_meaning.specs.IsTyped.{NamesInScope, reference_type, class_of, expression_type, thread_parameters, AreTypedConditions, AreTypedValues, IsTypedExpression, IsTypedInteger, IsTypedStep, AreValuesFor, IsTypedStatement, AreTypedStatements, AreTypedWhens, AreTypedValueWhens}
use Rattle.ds2_meaning.specs.TypedExpression.{TypedExpression, TypedExpressions, NoExpression, Then}
use Rattle.ds2_meaning.specs.TypedStatement.{TypedStatement, Empty, Assign, Invoke, Evaluate, SetParameters, ParameterValue, Construct, Leave, Continue, Return, ReturnValue, Output, Put, If, IfElse, Select, SelectValue, Block, Count, While, Until, TypedStatements, Finish, Next, TypedWhens, NoOtherwise, Otherwise, When}
use Rattle.ds2_code.specs.declared.instr.Instr.{Instr}
use Rattle.ds2_code.specs.declared.instr.Instr.TheVariants as instr
use Rattle.ds2_code.specs.declared.parts.ProgramParts.{ProgramParts}
use Rattle.ds2_code.specs.OperandTypes.{OperandTypes, CodeRole, OfUnit, OfMethod, none_below, without_result, with_only_result, result_types, return_types}
use Rattle.ds2_gen.specs.CodePieces.{ExitPoints, ReturnWay, JumpsToEnd, HandsBack}
use Rattle.ds2_gen.specs.ExpressionCode.{CodeNumbers, cell_of, load_instr, store_instr, constant_instr, expression_code, condition_code}
use Rattle.ds2_gen.specs.StatementCode.{return_instr, outputs_code, Subject, Conditions, EqualTo, compares, step_keeps, count_test_size, values_kept, statements_keep, whens_keep, items_code, invoke_code, parameter_cell, parameters_code, condition_size, load_kept, store_kept, test_code, tests_size, tests_code, end_number, step_instr, advance_code, count_test_code, count_values_code, count_begin_code, statement_size, statements_size, whens_size, statement_code, statements_code, whens_code}
use Rattle.ds2_program_code.specs.KeptTypes.{types_of_count, types_kept, all_types_kept, whens_types_kept}
use Rattle.ds2_program_code.specs.UsedConstants.{constants_used, constants_of_all, constants_of_step, constants_of_parameters, constants_of_statement, constants_of_body, constants_of_whens}
use Rattle.ds2_gen.proofs.SizeLemmas.{tests_size_is, begin_size_is, size_is, sizes_are}
use Rattle.ds2_program_code.specs.TypedOperands.{OperandsLead, HasCellOfType, HaveConstantsOfTypes, NamesHaveTypes}
use Rattle.ds2_program_code.specs.TypedRuns.{OperandsRun, AreOpenPlaces, ReturnsOfRole, IsOpenReturn, AreOpenExits, KeptHaveTypes, IsTypedParameter, PutsAreShort, AllPutsAreShort, WhensAreShort, StatementsRun}
use Rattle.ds2_program_code.proofs.OperandLeads.{front_types, back_types, leads_append, leads_one, load_by, store_by, same_type, constant_leads, expression_leads}
use Rattle.ds2_program_code.proofs.PlainStatements.{condition_leads, equality_leads, items_lead, put_leads, outputs_lead, invoke_leads, parameters_lead}
use Rattle.ds2_program_code.proofs.RunPieces.{size_none, plain_runs, runs_append, plain_then, open_behind, open_front, Anywhere, all_open}

-- ---- kept values

module _ (code : ProgramParts) (role : CodeRole) (numbers : CodeNumbers) where
  next_kept : (kept n : ℕ) → kept + suc n ≡ kept + 1 + n
  next_kept kept n = omega arith

  no_kept : (kept : ℕ) → kept ≡ kept + 0
  no_kept kept = omega arith

  kept_front : (kept : ℕ) (xs ys : List Ty) → KeptHaveTypes code role numbers.placement kept (xs ++ ys) → KeptHaveTypes code role numbers.placement kept xs
  kept_front kept [] ys h = tt
  kept_front kept (x ∷ xs) ys h = (h.0, kept_front (kept + 1) xs ys h.1)

  kept_back : (kept n : ℕ) (xs ys : List Ty) → length xs ≡ n → KeptHaveTypes code role numbers.placement kept (xs ++ ys) → KeptHaveTypes code role numbers.placement (kept + n) ys
  kept_back kept n [] ys size h = subst (λ m. KeptHaveTypes code role numbers.placement m ys) (no_kept kept ∙ ap (λ m. kept + m) size) h
  kept_back kept n (x ∷ xs) ys size h =
      subst (λ m. KeptHaveTypes code role numbers.placement m ys) (sym (next_kept kept (length xs)) ∙ ap (λ m. kept + m) size) (kept_back (kept + 1) (length xs) xs ys refl h.1)

-- how many values statements keep
count_types : (step : Option TypedExpression) → length (types_of_count step) ≡ step_keeps step + 1
count_types None = refl
count_types (Some e) = refl

mutual
  kept_size : (t : TypedStatement) → length (types_kept t) ≡ values_kept t
  kept_size (Empty place) = refl
  kept_size (Assign place r e) = refl
  kept_size (Invoke place instance method arguments) = refl
  kept_size (Evaluate place e) = refl
  kept_size (SetParameters place instance values) = refl
  kept_size (Construct place instance constructor arguments) = refl
  kept_size (Leave place) = refl
  kept_size (Continue place) = refl
  kept_size (Return place) = refl
  kept_size (ReturnValue place e) = refl
  kept_size (Output place outputs) = refl
  kept_size (Put place items) = refl
  kept_size (If place e on) = kept_size on
  kept_size (IfElse place e on off) = omega (arith, length-append (types_kept on) (types_kept off), kept_size on, kept_size off)
  kept_size (Select place whens) = kept_whens whens
  kept_size (SelectValue place e whens) = omega (arith, kept_whens whens)
  kept_size (Block place body) = kept_all body
  kept_size (Count place r start end step body) = omega (arith, length-append (types_of_count step) (all_types_kept body), count_types step, kept_all body)
  kept_size (While place e body) = kept_all body
  kept_size (Until place e body) = kept_all body

  kept_all : (ts : TypedStatements) → length (all_types_kept ts) ≡ statements_keep ts
  kept_all Finish = refl
  kept_all (Next t rest) = omega (arith, length-append (types_kept t) (all_types_kept rest), kept_size t, kept_all rest)

  kept_whens : (whens : TypedWhens) → length (whens_types_kept whens) ≡ whens_keep whens
  kept_whens NoOtherwise = refl
  kept_whens (Otherwise t) = kept_size t
  kept_whens (When tests t rest) = omega (arith, length-append (types_kept t) (whens_types_kept rest), kept_size t, kept_whens rest)

abbrev no_types : OperandTypes
no_types = []

no_operand : (t : Ty) → no_types ≡ t ∷ [] → ⊥
no_operand t e = cc

shift_four : (at : ℕ) → at + 3 + 1 + 3 ≡ at + 7
shift_four at = omega arith

level_is : (kept n : ℕ) → kept + (n + 1) ≡ kept + n + 1
level_is kept n = omega arith

shift_nine : (at : ℕ) → at + 7 + 1 + 1 ≡ at + 9
shift_nine at = omega arith

no_value : (ty : Ty) → None ≡ Some ty → ⊥
no_value ty e = cc

some_returned : (ty : Ty) → Some ty ≡ None → ⊥
some_returned ty e = cc

-- what the tests of a `when` need
abbrev SubjectTyped : ProgramParts → CodeRole → CodeNumbers → NamesInScope → Subject → TypedExpressions → Type 0
SubjectTyped code role numbers names Conditions tests = AreTypedConditions names tests
SubjectTyped code role numbers names (EqualTo n ty) tests = AreTypedValues names (class_of ty) tests × HasCellOfType code role (Some (numbers.placement.kept_cell n)) ty

-- what the parts of a `select` need
abbrev SubjectWhens : ProgramParts → CodeRole → CodeNumbers → NamesInScope → Bool → Subject → TypedWhens → Type 0
SubjectWhens code role numbers names loop Conditions whens = AreTypedWhens names loop whens
SubjectWhens code role numbers names loop (EqualTo n ty) whens = AreTypedValueWhens names loop (class_of ty) whens × HasCellOfType code role (Some (numbers.placement.kept_cell n)) ty

module _ (code : ProgramParts) (role : CodeRole) (numbers : CodeNumbers) (names : NamesInScope) (loop : Bool) where
  when_tests : (subject : Subject) (tests : TypedExpressions) (t : TypedStatement) (rest : TypedWhens) → SubjectWhens code role numbers names loop subject (When tests t rest) → SubjectTyped code role numbers names subject tests
  when_tests Conditions tests t rest typed = typed.0
  when_tests (EqualTo n ty) tests t rest typed = (typed.0.0, typed.1)

  when_statement : (subject : Subject) (tests : TypedExpressions) (t : TypedStatement) (rest : TypedWhens) → SubjectWhens code role numbers names loop subject (When tests t rest) → IsTypedStatement names loop t
  when_statement Conditions tests t rest typed = typed.1
  when_statement (EqualTo n ty) tests t rest typed = typed.0.1

  when_rest : (subject : Subject) (tests : TypedExpressions) (t : TypedStatement) (rest : TypedWhens) → SubjectWhens code role numbers names loop subject (When tests t rest) → SubjectWhens code role numbers names loop subject rest
  when_rest Conditions tests t rest typed = typed.2
  when_rest (EqualTo n ty) tests t rest typed = (typed.0.2, typed.1)

  when_otherwise : (subject : Subject) (t : TypedStatement) → SubjectWhens code role numbers names loop subject (Otherwise t) → IsTypedStatement names loop t
  when_otherwise Conditions t typed = typed
  when_otherwise (EqualTo n ty) t typed = typed.0

-- the operands of a counted loop's values above others: its step too, where one was given
abbrev step_operands : Option TypedExpression → OperandTypes → OperandTypes
step_operands None below = below
step_operands (Some e) below = BigInt ∷ below

module _ (code : ProgramParts) (params : List (Option Ty)) (role : CodeRole) (numbers : CodeNumbers) (names : NamesInScope) (have_types : NamesHaveTypes code role numbers names)
    (outputs_there : (n : ℕ) → n < names.outputs → is_some (slice_get code.outputs n) ≡ true)
    (stage_cells : (instance : List ℕ) (ps : List global_variable.Variable) → thread_parameters names.threads instance ≡ Some ps → AllByRecursion (λ (v : global_variable.Variable). IsTypedParameter params (parameter_cell numbers instance v.name) v.ty) ps) where
  -- ---- steps, stores and jumps

  ticked : (open_at : ℕ → Bool) (place : Place) (is : List Instr) (s t : OperandTypes) → OperandsRun code params role open_at s is t → OperandsRun code params role open_at s (instr.Tick place ∷ is) t
  ticked open_at place is s t h = (s, refl, tt, h)

  -- the places behind a step
  behind_tick : (open_at : ℕ → Bool) (place : Place) (is : List Instr) (at : ℕ) → AreOpenPlaces code params role open_at [] at (instr.Tick place ∷ is) → AreOpenPlaces code params role open_at [] (at + 1) is
  behind_tick open_at place is at places = places.1 [] refl

  plainly : (open_at : ℕ → Bool) (is : List Instr) → OperandsLead code params role [] is [] → OperandsRun code params role open_at [] is []
  plainly open_at is h = plain_runs code params role open_at is [] [] h

  store_variable : (r : Reference) (ty : Ty) (s : OperandTypes) → reference_type names r ≡ Some ty → OperandsLead code params role (ty ∷ s) (store_instr (cell_of numbers r) ∷ []) s
  store_variable r ty s e = store_by code params role (cell_of numbers r) ty s (have_types.variables r ty e)

  load_variable : (r : Reference) (ty : Ty) (s : OperandTypes) → reference_type names r ≡ Some ty → OperandsLead code params role s (load_instr (cell_of numbers r) BigInt ∷ []) (ty ∷ s)
  load_variable r ty s e = load_by code params role (cell_of numbers r) BigInt ty s (have_types.variables r ty e)

  expression_then : (e : TypedExpression) (is : List Instr) (s t : OperandTypes) → HaveConstantsOfTypes code numbers (constants_used e) → IsTypedExpression names e → OperandsLead code params role (expression_type e ∷ s) is t → OperandsLead code params role s (expression_code numbers e ++ is) t
  expression_then e is s t have typed h = leads_append code params role (expression_code numbers e) is s (expression_type e ∷ s) t (expression_leads code params role numbers names have_types e s have typed) h

  -- a jump where a condition does not hold, or holds
  no_jump : (open_at : ℕ → Bool) (to : ℕ) (is : List Instr) (t : OperandTypes) → open_at to ≡ true → OperandsRun code params role open_at [] is t → OperandsRun code params role open_at (BigInt ∷ []) (instr.JFalse to ∷ is) t
  no_jump open_at to is t opens h = ([], refl, opens, h)

  on_jump : (open_at : ℕ → Bool) (to : ℕ) (is : List Instr) (t : OperandTypes) → open_at to ≡ true → OperandsRun code params role open_at [] is t → OperandsRun code params role open_at (BigInt ∷ []) (instr.JTrue to ∷ is) t
  on_jump open_at to is t opens h = ([], refl, opens, h)

  jump : (open_at : ℕ → Bool) (to : ℕ) (is : List Instr) (t : OperandTypes) → open_at to ≡ true → OperandsRun code params role open_at [] is t → OperandsRun code params role open_at [] (instr.Jump to ∷ is) t
  jump open_at to is t opens h = ([], refl, opens, h)

  -- the places behind one
  behind_no_jump : (open_at : ℕ → Bool) (to : ℕ) (is : List Instr) (at : ℕ) → AreOpenPlaces code params role open_at (BigInt ∷ []) at (instr.JFalse to ∷ is) → AreOpenPlaces code params role open_at [] (at + 1) is
  behind_no_jump open_at to is at places = places.1 [] refl

  behind_jump : (open_at : ℕ → Bool) (to : ℕ) (is : List Instr) (at : ℕ) → AreOpenPlaces code params role open_at [] at (instr.Jump to ∷ is) → AreOpenPlaces code params role open_at [] (at + 1) is
  behind_jump open_at to is at places = places.1 [] refl

  -- the places behind plain code
  behind_plain : (open_at : ℕ → Bool) (xs ys : List Instr) (s t : OperandTypes) (at mid : ℕ) → at + length xs ≡ mid → OperandsLead code params role s xs t → AreOpenPlaces code params role open_at s at (xs ++ ys) → AreOpenPlaces code params role open_at t mid ys
  behind_plain open_at xs ys s t at mid size leads places = open_behind code params role open_at Anywhere xs ys s t at mid size (plain_runs code params role Anywhere xs s t leads) places

  -- ---- returns

  return_runs : (open_at : ℕ → Bool) (way : ReturnWay) → IsOpenReturn open_at way → (r : CodeRole) → r ≡ role → ReturnsOfRole r way None → OperandsRun code params role open_at [] (return_instr way ∷ []) []
  return_runs open_at (JumpsToEnd end) opens r same is = ([], refl, opens, refl)
  return_runs open_at (HandsBack true) opens OfUnit same is = absurd is
  return_runs open_at (HandsBack true) opens (OfMethod signature) same is = absurd (no_value is.1.0 is.1.1)
  return_runs open_at (HandsBack false) opens OfUnit same is = absurd is
  return_runs open_at (HandsBack false) opens (OfMethod signature) same is = ([], ap (λ x. return_types x []) (sym same) ∙ ap (λ o. without_result o []) is.0, tt, refl)

  value_runs : (open_at : ℕ → Bool) (way : ReturnWay) (ty : Ty) (r : CodeRole) → r ≡ role → ReturnsOfRole r way (Some ty) → OperandsRun code params role open_at (ty ∷ []) (instr.RetV ∷ []) []
  value_runs open_at (JumpsToEnd end) ty OfUnit same is = absurd (some_returned ty is)
  value_runs open_at (HandsBack h) ty OfUnit same is = absurd is
  value_runs open_at (JumpsToEnd end) ty (OfMethod signature) same is = absurd is
  value_runs open_at (HandsBack true) ty (OfMethod signature) same is =
      ([], ap (λ x. result_types x (ty ∷ [])) (sym same) ∙ ap (λ o. with_only_result o (ty ∷ [])) is.0 ∙ ap (λ b. none_below (if b then Some (record { taken = ty ∷ []; below = [] }) else None)) (same_type code params role ty), tt, refl)
  value_runs open_at (HandsBack false) ty (OfMethod signature) same is = absurd (some_returned ty is.1)

  -- ---- tests

  test_leads : (subject : Subject) (e : TypedExpression) (rest : TypedExpressions) → HaveConstantsOfTypes code numbers (constants_used e) → SubjectTyped code role numbers names subject (Then e rest) → OperandsLead code params role [] (test_code numbers subject e) (BigInt ∷ [])
  test_leads Conditions e rest have typed = condition_leads code params role numbers names have_types e [] have typed.0
  test_leads (EqualTo n ty) e rest have typed = equality_leads code params role numbers names have_types n ty e [] typed.1 have typed.0.0 typed.0.1

  subject_rest : (subject : Subject) (e : TypedExpression) (rest : TypedExpressions) → SubjectTyped code role numbers names subject (Then e rest) → SubjectTyped code role numbers names subject rest
  subject_rest Conditions e rest typed = typed.1
  subject_rest (EqualTo n ty) e rest typed = (typed.0.2, typed.1)

  tests_run : (open_at : ℕ → Bool) (subject : Subject) (on off : ℕ) (tests : TypedExpressions) → open_at on ≡ true → open_at off ≡ true → HaveConstantsOfTypes code numbers (constants_of_all tests) → SubjectTyped code role numbers names subject tests
      → OperandsRun code params role open_at [] (tests_code numbers subject on off tests) []
  tests_run open_at subject on off NoExpression to_on to_off have typed = ([], refl, to_off, refl)
  tests_run open_at subject on off (Then e NoExpression) to_on to_off have typed =
      plain_then code params role open_at (test_code numbers subject e) (instr.JFalse off ∷ []) [] (BigInt ∷ []) [] (test_leads subject e NoExpression (front_types code numbers (constants_used e) (constants_of_all NoExpression) have) typed)
      (no_jump open_at off [] [] to_off refl)
  tests_run open_at subject on off (Then e (Then f rest)) to_on to_off have typed =
      plain_then code params role open_at (test_code numbers subject e) (instr.JTrue on ∷ tests_code numbers subject on off (Then f rest)) [] (BigInt ∷ []) [] (test_leads subject e (Then f rest) (front_types code numbers (constants_used e) (constants_of_all (Then f rest)) have) typed)
      (on_jump open_at on (tests_code numbers subject on off (Then f rest)) [] to_on
      (tests_run open_at subject on off (Then f rest) to_on to_off (back_types code numbers (constants_used e) (constants_of_all (Then f rest)) have) (subject_rest subject e (Then f rest) typed)))

  -- ---- counted loops

  values_lead : (start end : TypedExpression) (step : Option TypedExpression) → HaveConstantsOfTypes code numbers (constants_used start) → HaveConstantsOfTypes code numbers (constants_used end) → HaveConstantsOfTypes code numbers (constants_of_step step)
      → IsTypedInteger names start → IsTypedInteger names end → IsTypedStep names step → OperandsLead code params role [] (count_values_code numbers start end step) (step_operands step (BigInt ∷ BigInt ∷ []))
  values_lead start end None have_start have_end have_step typed_start typed_end typed_step =
      expression_then start (expression_code numbers end ++ []) [] (BigInt ∷ BigInt ∷ []) have_start typed_start.0
      (subst (λ t. OperandsLead code params role (t ∷ []) (expression_code numbers end ++ []) (BigInt ∷ BigInt ∷ [])) (sym typed_start.1)
      (expression_then end [] (BigInt ∷ []) (BigInt ∷ BigInt ∷ []) have_end typed_end.0 (ap (λ t. t ∷ BigInt ∷ []) typed_end.1)))
  values_lead start end (Some step) have_start have_end have_step typed_start typed_end typed_step =
      expression_then start (expression_code numbers end ++ expression_code numbers step) [] (BigInt ∷ BigInt ∷ BigInt ∷ []) have_start typed_start.0
      (subst (λ t. OperandsLead code params role (t ∷ []) (expression_code numbers end ++ expression_code numbers step) (BigInt ∷ BigInt ∷ BigInt ∷ [])) (sym typed_start.1)
      (expression_then end (expression_code numbers step) (BigInt ∷ []) (BigInt ∷ BigInt ∷ BigInt ∷ []) have_end typed_end.0
      (subst (λ t. OperandsLead code params role (t ∷ BigInt ∷ []) (expression_code numbers step) (BigInt ∷ BigInt ∷ BigInt ∷ [])) (sym typed_end.1)
      (subst (λ t. OperandsLead code params role (BigInt ∷ BigInt ∷ []) (expression_code numbers step) (t ∷ BigInt ∷ BigInt ∷ [])) typed_step.1
      (expression_leads code params role numbers names have_types step (BigInt ∷ BigInt ∷ []) have_step.1 typed_step.0)))))

  begin_runs : (open_at : ℕ → Bool) (place : Place) (r : Reference) (kept : ℕ) (step : Option TypedExpression) (test : ℕ) → open_at test ≡ true → reference_type names r ≡ Some BigInt → KeptHaveTypes code role numbers.placement kept (types_of_count step)
      → OperandsRun code params role open_at (step_operands step (BigInt ∷ BigInt ∷ [])) (count_begin_code numbers place r kept step test) []
  begin_runs open_at place r kept None test opens variable cells =
      let end_cell = numbers.placement.kept_cell (end_number kept None) in
      let cell : HasCellOfType code role (Some end_cell) BigInt = subst (λ n. HasCellOfType code role (Some (numbers.placement.kept_cell n)) BigInt) (no_kept code role numbers kept) cells.0 in
      plain_then code params role open_at (store_instr (Some end_cell) ∷ []) (store_instr (cell_of numbers r) ∷ instr.Tick place ∷ instr.Jump test ∷ []) (BigInt ∷ BigInt ∷ []) (BigInt ∷ []) [] (store_by code params role (Some end_cell) BigInt (BigInt ∷ []) cell)
      (plain_then code params role open_at (store_instr (cell_of numbers r) ∷ []) (instr.Tick place ∷ instr.Jump test ∷ []) (BigInt ∷ []) [] [] (store_variable r BigInt [] variable)
      (ticked open_at place (instr.Jump test ∷ []) [] [] (jump open_at test [] [] opens refl)))
  begin_runs open_at place r kept (Some e) test opens variable cells =
      let step_cell = numbers.placement.kept_cell kept in
      let end_cell = numbers.placement.kept_cell (end_number kept (Some e)) in
      plain_then code params role open_at (store_instr (Some step_cell) ∷ []) (store_instr (Some end_cell) ∷ store_instr (cell_of numbers r) ∷ instr.Tick place ∷ instr.Jump test ∷ []) (BigInt ∷ BigInt ∷ BigInt ∷ []) (BigInt ∷ BigInt ∷ []) []
      (store_by code params role (Some step_cell) BigInt (BigInt ∷ BigInt ∷ []) cells.0)
      (plain_then code params role open_at (store_instr (Some end_cell) ∷ []) (store_instr (cell_of numbers r) ∷ instr.Tick place ∷ instr.Jump test ∷ []) (BigInt ∷ BigInt ∷ []) (BigInt ∷ []) [] (store_by code params role (Some end_cell) BigInt (BigInt ∷ []) cells.1.0)
      (plain_then code params role open_at (store_instr (cell_of numbers r) ∷ []) (instr.Tick place ∷ instr.Jump test ∷ []) (BigInt ∷ []) [] [] (store_variable r BigInt [] variable)
      (ticked open_at place (instr.Jump test ∷ []) [] [] (jump open_at test [] [] opens refl))))

  -- the end of a counted loop among its kept values
  end_cell_typed : (kept : ℕ) (step : Option TypedExpression) → KeptHaveTypes code role numbers.placement kept (types_of_count step) → HasCellOfType code role (Some (numbers.placement.kept_cell (end_number kept step))) BigInt
  end_cell_typed kept None cells = subst (λ n. HasCellOfType code role (Some (numbers.placement.kept_cell n)) BigInt) (no_kept code role numbers kept) cells.0
  end_cell_typed kept (Some e) cells = cells.1.0

  -- 1, which stands for a step that was not given, and 0
  integer_leads : (n : ℕ) (s : OperandTypes) → HaveConstantsOfTypes code numbers (record { value = Int (pos n); ty = BigInt } ∷ []) → OperandsLead code params role s (constant_instr numbers (Int (pos n)) BigInt ∷ []) (BigInt ∷ s)
  integer_leads n s have = constant_leads code params role numbers (Int (pos n)) BigInt s have.0 refl

  step_leads : (kept : ℕ) (step : Option TypedExpression) (s : OperandTypes) → HaveConstantsOfTypes code numbers (constants_of_step step) → KeptHaveTypes code role numbers.placement kept (types_of_count step) → OperandsLead code params role s (step_instr numbers kept step ∷ []) (BigInt ∷ s)
  step_leads kept None s have cells = integer_leads 1 s (have.0, tt)
  step_leads kept (Some e) s have cells = load_by code params role (Some (numbers.placement.kept_cell kept)) BigInt BigInt s cells.0

  advance_leads : (place : Place) (r : Reference) (kept : ℕ) (step : Option TypedExpression) → reference_type names r ≡ Some BigInt → HaveConstantsOfTypes code numbers (constants_of_step step) → KeptHaveTypes code role numbers.placement kept (types_of_count step)
      → OperandsLead code params role [] (advance_code numbers place r (step_instr numbers kept step)) []
  advance_leads place r kept step variable have cells = (
    [],
    refl,
    refl,
    refl,
    leads_append code params role (load_instr (cell_of numbers r) BigInt ∷ []) (step_instr numbers kept step ∷ instr.IAdd ∷ store_instr (cell_of numbers r) ∷ []) [] (BigInt ∷ []) [] (load_variable r BigInt [] variable)
        (leads_append code params role (step_instr numbers kept step ∷ []) (instr.IAdd ∷ store_instr (cell_of numbers r) ∷ []) (BigInt ∷ []) (BigInt ∷ BigInt ∷ []) [] (step_leads kept step (BigInt ∷ []) have cells)
        (BigInt ∷ [], refl, refl, refl, store_variable r BigInt [] variable)),
  )

  -- the variable beside its end, compared
  bound_leads : (r : Reference) (end : ℕ) (c : Comparison) → reference_type names r ≡ Some BigInt → HasCellOfType code role (Some (numbers.placement.kept_cell end)) BigInt
      → OperandsLead code params role [] (load_instr (cell_of numbers r) BigInt ∷ load_kept numbers end BigInt ∷ instr.ICmp c ∷ []) (BigInt ∷ [])
  bound_leads r end c variable cell =
      leads_append code params role (load_instr (cell_of numbers r) BigInt ∷ []) (load_kept numbers end BigInt ∷ instr.ICmp c ∷ []) [] (BigInt ∷ []) (BigInt ∷ []) (load_variable r BigInt [] variable)
      (leads_append code params role (load_kept numbers end BigInt ∷ []) (instr.ICmp c ∷ []) (BigInt ∷ []) (BigInt ∷ BigInt ∷ []) (BigInt ∷ []) (load_by code params role (Some (numbers.placement.kept_cell end)) BigInt BigInt (BigInt ∷ []) cell)
      (leads_one code params role (instr.ICmp c) (BigInt ∷ BigInt ∷ []) (BigInt ∷ []) refl refl refl))

  -- the step beside 0, compared
  sign_leads : (kept : ℕ) (c : Comparison) → HasCellOfType code role (Some (numbers.placement.kept_cell kept)) BigInt → HaveConstantsOfTypes code numbers (record { value = Int (pos 0); ty = BigInt } ∷ [])
      → OperandsLead code params role [] (load_kept numbers kept BigInt ∷ constant_instr numbers (Int (pos 0)) BigInt ∷ instr.ICmp c ∷ []) (BigInt ∷ [])
  sign_leads kept c cell have =
      leads_append code params role (load_kept numbers kept BigInt ∷ []) (constant_instr numbers (Int (pos 0)) BigInt ∷ instr.ICmp c ∷ []) [] (BigInt ∷ []) (BigInt ∷ []) (load_by code params role (Some (numbers.placement.kept_cell kept)) BigInt BigInt [] cell)
      (leads_append code params role (constant_instr numbers (Int (pos 0)) BigInt ∷ []) (instr.ICmp c ∷ []) (BigInt ∷ []) (BigInt ∷ BigInt ∷ []) (BigInt ∷ []) (integer_leads 0 (BigInt ∷ []) have)
      (leads_one code params role (instr.ICmp c) (BigInt ∷ BigInt ∷ []) (BigInt ∷ []) refl refl refl))

  count_open : (open_at : ℕ → Bool) (at first : ℕ) (r : Reference) (kept : ℕ) (step : Option TypedExpression) → AreOpenPlaces code params role open_at [] at (count_test_code numbers at first r kept step) → open_at at ≡ true
  count_open open_at at first r kept None places = places.0 refl
  count_open open_at at first r kept (Some e) places = places.0 refl

  -- the test of a counted loop
  count_test_runs : (open_at : ℕ → Bool) (at first : ℕ) (r : Reference) (kept : ℕ) (step : Option TypedExpression) → open_at first ≡ true → open_at (at + count_test_size step) ≡ true → reference_type names r ≡ Some BigInt → HaveConstantsOfTypes code numbers (constants_of_step step)
      → KeptHaveTypes code role numbers.placement kept (types_of_count step) → AreOpenPlaces code params role open_at [] at (count_test_code numbers at first r kept step) → OperandsRun code params role open_at [] (count_test_code numbers at first r kept step) []
  count_test_runs open_at at first r kept None to_first to_end variable have cells places =
      let bound = load_instr (cell_of numbers r) BigInt ∷ load_kept numbers (end_number kept None) BigInt ∷ instr.ICmp LessOrEqual ∷ [] in
      plain_then code params role open_at bound (instr.JTrue first ∷ []) [] (BigInt ∷ []) [] (bound_leads r (end_number kept None) LessOrEqual variable (end_cell_typed kept None cells)) (on_jump open_at first [] [] to_first refl)
  count_test_runs open_at at first r kept (Some e) to_first to_end variable have cells places =
      let end = end_number kept (Some e) in
      let up = load_instr (cell_of numbers r) BigInt ∷ load_kept numbers end BigInt ∷ instr.ICmp LessOrEqual ∷ [] in
      let down = load_instr (cell_of numbers r) BigInt ∷ load_kept numbers end BigInt ∷ instr.ICmp GreaterOrEqual ∷ [] in
      let rising = load_kept numbers kept BigInt ∷ constant_instr numbers (Int (pos 0)) BigInt ∷ instr.ICmp GreaterOrEqual ∷ [] in
      let falling = load_kept numbers kept BigInt ∷ constant_instr numbers (Int (pos 0)) BigInt ∷ instr.ICmp Less ∷ [] in
      let zero_there : HaveConstantsOfTypes code numbers (record { value = Int (pos 0); ty = BigInt } ∷ []) = (have.0, tt) in
      let end_cell = end_cell_typed kept (Some e) cells in
      let last = instr.JFalse (at + 17) ∷ (down ++ instr.JTrue first ∷ []) in
      let behind_up = instr.JTrue first ∷ instr.Jump (at + 17) ∷ (falling ++ last) in
      let leads_rising = sign_leads kept GreaterOrEqual cells.0 zero_there in
      let leads_up = bound_leads r end LessOrEqual variable end_cell in
      let at_up = behind_no_jump open_at (at + 9) (up ++ behind_up) (at + 3) (behind_plain open_at rising (instr.JFalse (at + 9) ∷ (up ++ behind_up)) [] (BigInt ∷ []) at (at + 3) refl leads_rising places) in
      let at_true = behind_plain open_at up behind_up [] (BigInt ∷ []) (at + 3 + 1) (at + 7) (shift_four at) leads_up at_up in
      let at_pass = at_true.1 [] refl in
      let at_falling = behind_jump open_at (at + 17) (falling ++ last) (at + 7 + 1) at_pass in
      let to_falling : open_at (at + 9) ≡ true = subst (λ n. open_at n ≡ true) (shift_nine at) (at_falling.0 refl) in
      plain_then code params role open_at rising (instr.JFalse (at + 9) ∷ (up ++ behind_up)) [] (BigInt ∷ []) [] leads_rising
      (no_jump open_at (at + 9) (up ++ behind_up) [] to_falling
      (plain_then code params role open_at up behind_up [] (BigInt ∷ []) [] leads_up
      (on_jump open_at first (instr.Jump (at + 17) ∷ (falling ++ last)) [] to_first
      (jump open_at (at + 17) (falling ++ last) [] to_end
      (plain_then code params role open_at falling last [] (BigInt ∷ []) [] (sign_leads kept Less cells.0 zero_there)
      (no_jump open_at (at + 17) (down ++ instr.JTrue first ∷ []) [] to_end
      (plain_then code params role open_at down (instr.JTrue first ∷ []) [] (BigInt ∷ []) [] (bound_leads r end GreaterOrEqual variable end_cell) (on_jump open_at first [] [] to_first refl))))))))

  -- ---- statements

  set_leads : (instance : List ℕ) (o : Option (List global_variable.Variable)) (values : List ParameterValue) → thread_parameters names.threads instance ≡ o → HaveConstantsOfTypes code numbers (constants_of_parameters values) → AreValuesFor names o values
      → OperandsLead code params role [] (parameters_code numbers instance values) []
  set_leads instance None values e have typed = absurd typed
  set_leads instance (Some ps) values e have typed = parameters_lead code params role numbers names have_types instance ps values [] (stage_cells instance ps e) have typed

  any_exits_by : (way : ReturnWay) → IsOpenReturn Anywhere way
  any_exits_by (JumpsToEnd end) = refl
  any_exits_by (HandsBack has_result) = tt

  any_exits : (exits : ExitPoints) → AreOpenExits Anywhere exits
  any_exits exits = (refl, refl, any_exits_by exits.return)

  module _ (open_at : ℕ → Bool) where
    -- no operand stands where a statement begins
    statement_open : (at kept : ℕ) (exits : ExitPoints) (t : TypedStatement) → AreOpenPlaces code params role open_at [] at (statement_code numbers at kept exits t) → open_at at ≡ true
    statement_open at kept exits (Empty place) places = places.0 refl
    statement_open at kept exits (Assign place r e) places = places.0 refl
    statement_open at kept exits (Invoke place instance method arguments) places = places.0 refl
    statement_open at kept exits (Evaluate place e) places = places.0 refl
    statement_open at kept exits (SetParameters place instance values) places = places.0 refl
    statement_open at kept exits (Construct place instance constructor arguments) places = places.0 refl
    statement_open at kept exits (Leave place) places = places.0 refl
    statement_open at kept exits (Continue place) places = places.0 refl
    statement_open at kept exits (Return place) places = places.0 refl
    statement_open at kept exits (ReturnValue place e) places = places.0 refl
    statement_open at kept exits (Output place outputs) places = places.0 refl
    statement_open at kept exits (Put place items) places = places.0 refl
    statement_open at kept exits (If place e on) places = places.0 refl
    statement_open at kept exits (IfElse place e on off) places = places.0 refl
    statement_open at kept exits (Select place whens) places = places.0 refl
    statement_open at kept exits (SelectValue place e whens) places = places.0 refl
    statement_open at kept exits (Block place body) places = places.0 refl
    statement_open at kept exits (Count place r start end step body) places = places.0 refl
    statement_open at kept exits (While place e body) places = places.0 refl
    statement_open at kept exits (Until place e body) places = places.0 refl

    -- nor where several do
    statements_open : (at to kept : ℕ) (exits : ExitPoints) (ts : TypedStatements) → at + statements_size numbers ts ≡ to → open_at to ≡ true → AreOpenPlaces code params role open_at [] at (statements_code numbers at kept exits ts) → open_at at ≡ true
    statements_open at to kept exits Finish len opens places = subst (λ n. open_at n ≡ true) (sym (size_none at ∙ len)) opens
    statements_open at to kept exits (Next t rest) len opens places =
        statement_open at kept exits t (open_front code params role open_at (statement_code numbers at kept exits t) (statements_code numbers (at + statement_size numbers t) (kept + values_kept t) exits rest) [] at places)

    -- nor where tests do
    test_open : (is ys : List Instr) (t : Ty) (at : ℕ) → OperandsLead code params role [] is (t ∷ []) → AreOpenPlaces code params role open_at [] at (is ++ ys) → open_at at ≡ true
    test_open [] ys t at leads places = absurd (no_operand t leads)
    test_open (i ∷ is) ys t at leads places = places.0 refl

    tests_open : (subject : Subject) (on off at : ℕ) (tests : TypedExpressions) → HaveConstantsOfTypes code numbers (constants_of_all tests) → SubjectTyped code role numbers names subject tests
        → AreOpenPlaces code params role open_at [] at (tests_code numbers subject on off tests) → open_at at ≡ true
    tests_open subject on off at NoExpression have typed places = places.0 refl
    tests_open subject on off at (Then e NoExpression) have typed places =
        test_open (test_code numbers subject e) (instr.JFalse off ∷ []) BigInt at (test_leads subject e NoExpression (front_types code numbers (constants_used e) (constants_of_all NoExpression) have) typed) places
    tests_open subject on off at (Then e (Then f rest)) have typed places =
        test_open (test_code numbers subject e) (instr.JTrue on ∷ tests_code numbers subject on off (Then f rest)) BigInt at (test_leads subject e (Then f rest) (front_types code numbers (constants_used e) (constants_of_all (Then f rest)) have) typed) places

    -- nor where a part of a `select` does
    whens_open : (loop : Bool) (at kept end : ℕ) (exits : ExitPoints) (subject : Subject) (whens : TypedWhens) → HaveConstantsOfTypes code numbers (constants_of_whens whens) → SubjectWhens code role numbers names loop subject whens
        → AreOpenPlaces code params role open_at [] at (whens_code numbers at kept end exits subject whens) → open_at at ≡ true
    whens_open loop at kept end exits subject NoOtherwise have typed places = places.0 refl
    whens_open loop at kept end exits subject (Otherwise t) have typed places = statement_open at kept exits t places
    whens_open loop at kept end exits subject (When tests t rest) have typed places =
        let first = at + tests_size numbers (compares subject) tests in
        let next = first + statement_size numbers t + 1 in
        tests_open subject first next at tests (front_types code numbers (constants_of_all tests) (constants_of_statement t ++ constants_of_whens rest) have) (when_tests code role numbers names loop subject tests t rest typed)
        (open_front code params role open_at (tests_code numbers subject first next tests) (statement_code numbers first kept exits t ++ (instr.Jump end ∷ whens_code numbers next (kept + values_kept t) end exits subject rest)) [] at places)

  mutual
    statement_runs : (open_at : ℕ → Bool) (kept : ℕ) (loop : Bool) (t : TypedStatement) (at to : ℕ) (exits : ExitPoints) → at + statement_size numbers t ≡ to → open_at to ≡ true → AreOpenPlaces code params role open_at [] at (statement_code numbers at kept exits t) → AreOpenExits open_at exits
        → ReturnsOfRole role exits.return names.returns → KeptHaveTypes code role numbers.placement kept (types_kept t) → PutsAreShort t → HaveConstantsOfTypes code numbers (constants_of_statement t) → IsTypedStatement names loop t
        → OperandsRun code params role open_at [] (statement_code numbers at kept exits t) []
    statement_runs open_at kept loop (Empty place) at to exits len opens places out returns cells puts have typed = ticked open_at place [] [] [] refl
    statement_runs open_at kept loop (Assign place r e) at to exits len opens places out returns cells puts have typed =
        ticked open_at place (expression_code numbers e ++ store_instr (cell_of numbers r) ∷ []) [] []
        (plainly open_at (expression_code numbers e ++ store_instr (cell_of numbers r) ∷ []) (expression_then e (store_instr (cell_of numbers r) ∷ []) [] [] have typed.1 (store_variable r (expression_type e) [] typed.2)))
    statement_runs open_at kept loop (Invoke place instance number arguments) at to exits len opens places out returns cells puts have typed =
        ticked open_at place (invoke_code numbers (callee_home numbers.home instance) number arguments) [] []
        (plainly open_at (invoke_code numbers (callee_home numbers.home instance) number arguments) (invoke_leads code params role numbers names have_types instance number arguments [] have typed))
    statement_runs open_at kept loop (Evaluate place e) at to exits len opens places out returns cells puts have typed =
        ticked open_at place (expression_code numbers e ++ instr.DropTop ∷ []) [] []
        (plainly open_at (expression_code numbers e ++ instr.DropTop ∷ []) (expression_then e (instr.DropTop ∷ []) [] [] have typed (leads_one code params role instr.DropTop (expression_type e ∷ []) [] refl refl refl)))
    statement_runs open_at kept loop (SetParameters place instance values) at to exits len opens places out returns cells puts have typed =
        ticked open_at place (parameters_code numbers instance values) [] []
        (plainly open_at (parameters_code numbers instance values) (set_leads instance (thread_parameters names.threads instance) values refl have typed))
    statement_runs open_at kept loop (Construct place instance constructor arguments) at to exits len opens places out returns cells puts have typed = absurd typed
    statement_runs open_at kept loop (Leave place) at to exits len opens places out returns cells puts have typed = ticked open_at place (instr.Jump exits.leave ∷ []) [] [] (jump open_at exits.leave [] [] out.0 refl)
    statement_runs open_at kept loop (Continue place) at to exits len opens places out returns cells puts have typed = ticked open_at place (instr.Jump exits.continue ∷ []) [] [] (jump open_at exits.continue [] [] out.1 refl)
    statement_runs open_at kept loop (Return place) at to exits len opens places out returns cells puts have typed =
        ticked open_at place (return_instr exits.return ∷ []) [] [] (return_runs open_at exits.return out.2 role refl (subst (λ o. ReturnsOfRole role exits.return o) typed returns))
    statement_runs open_at kept loop (ReturnValue place e) at to exits len opens places out returns cells puts have typed =
        ticked open_at place (expression_code numbers e ++ instr.RetV ∷ []) [] []
        (plain_then code params role open_at (expression_code numbers e) (instr.RetV ∷ []) [] (expression_type e ∷ []) [] (expression_leads code params role numbers names have_types e [] have typed.0)
        (value_runs open_at exits.return (expression_type e) role refl (subst (λ o. ReturnsOfRole role exits.return o) typed.1 returns)))
    statement_runs open_at kept loop (Output place ns) at to exits len opens places out returns cells puts have typed =
        ticked open_at place (outputs_code ns) [] [] (plainly open_at (outputs_code ns) (outputs_lead code params role numbers names have_types ns [] outputs_there typed.1))
    statement_runs open_at kept loop (Put place items) at to exits len opens places out returns cells puts have typed =
        let line = items_lead code params role numbers names have_types items [] have typed in
        ticked open_at place (items_code numbers items ++ instr.Put (length items) ∷ []) [] []
        (plainly open_at (items_code numbers items ++ instr.Put (length items) ∷ [])
        (leads_append code params role (items_code numbers items) (instr.Put (length items) ∷ []) [] line.0 [] line.1 (put_leads code params role numbers names have_types (length items) line.0 [] puts line.2)))
    statement_runs open_at kept loop (If place e on) at to exits len opens places out returns cells puts have typed =
        let cond = condition_code numbers e in
        let mid = at + 1 + condition_size numbers e in
        let first = mid + 1 in
        let end = first + statement_size numbers on in
        let same : to ≡ end = omega arith in
        let con = statement_code numbers first kept exits on in
        let leads = condition_leads code params role numbers names have_types e [] (front_types code numbers (constants_used e) (constants_of_statement on) have) typed.0 in
        let behind = behind_plain open_at cond (instr.JFalse end ∷ con) [] (BigInt ∷ []) (at + 1) mid refl leads (behind_tick open_at place (cond ++ (instr.JFalse end ∷ con)) at places) in
        let at_end = subst (λ n. open_at n ≡ true) same opens in
        ticked open_at place (cond ++ (instr.JFalse end ∷ con)) [] []
        (plain_then code params role open_at cond (instr.JFalse end ∷ con) [] (BigInt ∷ []) [] leads
        (no_jump open_at end con [] at_end
        (statement_runs open_at kept loop on first end exits refl at_end (behind_no_jump open_at end con mid behind) out returns cells puts (back_types code numbers (constants_used e) (constants_of_statement on) have) typed.1)))
    statement_runs open_at kept loop (IfElse place e on off) at to exits len opens places out returns cells puts have typed =
        let cond = condition_code numbers e in
        let mid = at + 1 + condition_size numbers e in
        let first = mid + 1 in
        let back = first + statement_size numbers on in
        let other = back + 1 in
        let end = other + statement_size numbers off in
        let same : to ≡ end = omega arith in
        let later = kept + values_kept on in
        let con = statement_code numbers first kept exits on in
        let coff = statement_code numbers other later exits off in
        let have_e = front_types code numbers (constants_used e) (constants_of_statement on ++ constants_of_statement off) have in
        let have_both = back_types code numbers (constants_used e) (constants_of_statement on ++ constants_of_statement off) have in
        let have_on = front_types code numbers (constants_of_statement on) (constants_of_statement off) have_both in
        let have_off = back_types code numbers (constants_of_statement on) (constants_of_statement off) have_both in
        let leads = condition_leads code params role numbers names have_types e [] have_e typed.0 in
        let tail = instr.JFalse other ∷ (con ++ (instr.Jump end ∷ coff)) in
        let cells_on = kept_front code role numbers kept (types_kept on) (types_kept off) cells in
        let cells_off = kept_back code role numbers kept (values_kept on) (types_kept on) (types_kept off) (kept_size on) cells in
        let behind = behind_plain open_at cond tail [] (BigInt ∷ []) (at + 1) mid refl leads (behind_tick open_at place (cond ++ tail) at places) in
        let both = behind_no_jump open_at other (con ++ (instr.Jump end ∷ coff)) mid behind in
        let on_anywhere = statement_runs Anywhere kept loop on first back exits refl refl (all_open code params role con [] first) (any_exits exits) returns cells_on puts.0 have_on typed.1 in
        let at_jump = open_behind code params role open_at Anywhere con (instr.Jump end ∷ coff) [] [] first back (ap (λ n. first + n) (size_is numbers first kept exits on)) on_anywhere both in
        let at_off = behind_jump open_at end coff back at_jump in
        let at_end = subst (λ n. open_at n ≡ true) same opens in
        ticked open_at place (cond ++ tail) [] []
        (plain_then code params role open_at cond tail [] (BigInt ∷ []) [] leads
        (no_jump open_at other (con ++ (instr.Jump end ∷ coff)) [] (statement_open open_at other later exits off at_off)
        (runs_append code params role open_at con (instr.Jump end ∷ coff) [] [] []
        (statement_runs open_at kept loop on first back exits refl (at_jump.0 refl) (open_front code params role open_at con (instr.Jump end ∷ coff) [] first both) out returns cells_on puts.0 have_on typed.1)
        (jump open_at end coff [] at_end (statement_runs open_at later loop off other end exits refl at_end at_off out returns cells_off puts.1 have_off typed.2)))))
    statement_runs open_at kept loop (Select place whens) at to exits len opens places out returns cells puts have typed =
        let end = at + 1 + whens_size numbers false whens in
        let same : to ≡ end = omega arith in
        let cw = whens_code numbers (at + 1) kept end exits Conditions whens in
        ticked open_at place cw [] []
        (whens_run open_at kept loop Conditions whens (at + 1) end exits refl (subst (λ n. open_at n ≡ true) same opens) (behind_tick open_at place cw at places) out returns cells puts have typed)
    statement_runs open_at kept loop (SelectValue place e whens) at to exits len opens places out returns cells puts have typed =
        let ce = expression_code numbers e in
        let ty = expression_type e in
        let subject = EqualTo kept ty in
        let mid = at + 1 + length ce in
        let first = mid + 1 in
        let end = first + whens_size numbers true whens in
        let same : to ≡ end = omega arith in
        let cw = whens_code numbers first (kept + 1) end exits subject whens in
        let have_e = front_types code numbers (constants_used e) (constants_of_whens whens) have in
        let have_w = back_types code numbers (constants_used e) (constants_of_whens whens) have in
        let keeps = store_by code params role (Some (numbers.placement.kept_cell kept)) ty [] cells.0 in
        let leads = leads_append code params role ce (store_kept numbers kept ∷ []) [] (ty ∷ []) [] (expression_leads code params role numbers names have_types e [] have_e typed.0) keeps in
        let behind = behind_plain open_at ce (store_kept numbers kept ∷ cw) [] (ty ∷ []) (at + 1) mid refl (expression_leads code params role numbers names have_types e [] have_e typed.0) (behind_tick open_at place (ce ++ (store_kept numbers kept ∷ cw)) at places) in
        let at_whens = behind_plain open_at (store_kept numbers kept ∷ []) cw (ty ∷ []) [] mid first refl keeps behind in
        ticked open_at place (ce ++ (store_kept numbers kept ∷ cw)) [] []
        (plain_then code params role open_at ce (store_kept numbers kept ∷ cw) [] (ty ∷ []) [] (expression_leads code params role numbers names have_types e [] have_e typed.0)
        (plain_then code params role open_at (store_kept numbers kept ∷ []) cw (ty ∷ []) [] [] keeps
        (whens_run open_at (kept + 1) loop subject whens first end exits refl (subst (λ n. open_at n ≡ true) same opens) at_whens out returns cells.1 puts have_w (typed.1, cells.0))))
    statement_runs open_at kept loop (Block place body) at to exits len opens places out returns cells puts have typed =
        let cb = statements_code numbers (at + 1) kept exits body in
        ticked open_at place cb [] [] (statements_run open_at kept loop body (at + 1) to exits (omega arith) opens (behind_tick open_at place cb at places) out returns cells puts have typed)
    statement_runs open_at kept loop (While place e body) at to exits len opens places out returns cells puts have typed =
        let cond = condition_code numbers e in
        let test = at + 1 in
        let mid = at + 2 + condition_size numbers e in
        let first = mid + 1 in
        let back = first + statements_size numbers body in
        let end = back + 1 in
        let same : to ≡ end = omega arith in
        let to_mid : test + 1 + condition_size numbers e ≡ mid = omega arith in
        let within : ExitPoints = record { leave = end; continue = test; return = exits.return } in
        let cb = statements_code numbers first kept within body in
        let tail = instr.JFalse end ∷ (cb ++ instr.Jump test ∷ []) in
        let have_e = front_types code numbers (constants_used e) (constants_of_body body) have in
        let have_b = back_types code numbers (constants_used e) (constants_of_body body) have in
        let leads = condition_leads code params role numbers names have_types e [] have_e typed.0 in
        let at_test = behind_tick open_at place (instr.Tick place ∷ (cond ++ tail)) at places in
        let behind = behind_plain open_at cond tail [] (BigInt ∷ []) (test + 1) mid to_mid leads (behind_tick open_at place (cond ++ tail) test at_test) in
        let at_body = behind_no_jump open_at end (cb ++ instr.Jump test ∷ []) mid behind in
        let body_anywhere = statements_run Anywhere kept true body first back within refl refl (all_open code params role cb [] first) (any_exits within) returns cells puts have_b typed.1 in
        let at_back = open_behind code params role open_at Anywhere cb (instr.Jump test ∷ []) [] [] first back (ap (λ n. first + n) (sizes_are numbers first kept within body)) body_anywhere at_body in
        let at_end = subst (λ n. open_at n ≡ true) same opens in
        ticked open_at place (instr.Tick place ∷ (cond ++ tail)) [] []
        (ticked open_at place (cond ++ tail) [] []
        (plain_then code params role open_at cond tail [] (BigInt ∷ []) [] leads
        (no_jump open_at end (cb ++ instr.Jump test ∷ []) [] at_end
        (runs_append code params role open_at cb (instr.Jump test ∷ []) [] [] []
        (statements_run open_at kept true body first back within refl (at_back.0 refl) (open_front code params role open_at cb (instr.Jump test ∷ []) [] first at_body) (at_end, at_test.0 refl, out.2) returns cells puts have_b typed.1)
        (jump open_at test [] [] (at_test.0 refl) refl)))))
    statement_runs open_at kept loop (Until place e body) at to exits len opens places out returns cells puts have typed =
        let cond = condition_code numbers e in
        let first = at + 1 in
        let test = at + 1 + statements_size numbers body in
        let mid = test + 1 + condition_size numbers e in
        let end = mid + 1 in
        let same : to ≡ end = omega arith in
        let within : ExitPoints = record { leave = end; continue = test; return = exits.return } in
        let cb = statements_code numbers first kept within body in
        let back = instr.JFalse first ∷ [] in
        let tail = instr.Tick place ∷ (cond ++ back) in
        let have_e = front_types code numbers (constants_used e) (constants_of_body body) have in
        let have_b = back_types code numbers (constants_used e) (constants_of_body body) have in
        let leads = condition_leads code params role numbers names have_types e [] have_e typed.0 in
        let at_body = behind_tick open_at place (cb ++ tail) at places in
        let body_anywhere = statements_run Anywhere kept true body first test within refl refl (all_open code params role cb [] first) (any_exits within) returns cells puts have_b typed.1 in
        let at_test = open_behind code params role open_at Anywhere cb tail [] [] first test (ap (λ n. first + n) (sizes_are numbers first kept within body)) body_anywhere at_body in
        let opens_test : open_at test ≡ true = at_test.0 refl in
        let at_end = subst (λ n. open_at n ≡ true) same opens in
        let body_places = open_front code params role open_at cb tail [] first at_body in
        let opens_first : open_at first ≡ true = statements_open open_at first test kept within body refl opens_test body_places in
        ticked open_at place (cb ++ tail) [] []
        (runs_append code params role open_at cb tail [] [] []
        (statements_run open_at kept true body first test within refl opens_test body_places (at_end, opens_test, out.2) returns cells puts have_b typed.1)
        (ticked open_at place (cond ++ back) [] [] (plain_then code params role open_at cond back [] (BigInt ∷ []) [] leads (no_jump open_at first [] [] opens_first refl))))
    statement_runs open_at kept loop (Count place r start end step body) at to exits len opens places out returns cells puts have typed =
        let values = count_values_code numbers start end step in
        let begun = at + 1 + length values in
        let first = at + 1 + length values + (step_keeps step + 4) in
        let again = first + statements_size numbers body in
        let test = again + 5 in
        let past = test + count_test_size step in
        let same : to ≡ past = omega arith in
        let level = end_number kept step + 1 in
        let within : ExitPoints = record { leave = past; continue = again; return = exits.return } in
        let cb = statements_code numbers first level within body in
        let advance = advance_code numbers place r (step_instr numbers kept step) in
        let tests = count_test_code numbers test first r kept step in
        let beginning = count_begin_code numbers place r kept step test in
        let operands = step_operands step (BigInt ∷ BigInt ∷ []) in
        let have_start = front_types code numbers (constants_used start) (constants_used end ++ (constants_of_step step ++ constants_of_body body)) have in
        let have_more = back_types code numbers (constants_used start) (constants_used end ++ (constants_of_step step ++ constants_of_body body)) have in
        let have_end = front_types code numbers (constants_used end) (constants_of_step step ++ constants_of_body body) have_more in
        let have_rest = back_types code numbers (constants_used end) (constants_of_step step ++ constants_of_body body) have_more in
        let have_step = front_types code numbers (constants_of_step step) (constants_of_body body) have_rest in
        let have_b = back_types code numbers (constants_of_step step) (constants_of_body body) have_rest in
        let own = kept_front code role numbers kept (types_of_count step) (all_types_kept body) cells in
        let cells_b = subst (λ n. KeptHaveTypes code role numbers.placement n (all_types_kept body)) (level_is kept (step_keeps step)) (kept_back code role numbers kept (step_keeps step + 1) (types_of_count step) (all_types_kept body) (count_types step) cells) in
        let leads_values = values_lead start end step have_start have_end have_step typed.2 typed.3 typed.4 in
        let leads_advance = advance_leads place r kept step typed.1 have_step own in
        let at_begin = behind_plain open_at values (beginning ++ (cb ++ (advance ++ tests))) [] operands (at + 1) begun refl leads_values (behind_tick open_at place (values ++ (beginning ++ (cb ++ (advance ++ tests)))) at places) in
        let at_body = open_behind code params role open_at Anywhere beginning (cb ++ (advance ++ tests)) operands [] begun first (ap (λ n. begun + n) (begin_size_is numbers place r kept step test)) (begin_runs Anywhere place r kept step test refl typed.1 own) at_begin in
        let body_anywhere = statements_run Anywhere level true body first again within refl refl (all_open code params role cb [] first) (any_exits within) returns cells_b puts have_b typed.5 in
        let at_again = open_behind code params role open_at Anywhere cb (advance ++ tests) [] [] first again (ap (λ n. first + n) (sizes_are numbers first level within body)) body_anywhere at_body in
        let at_test = behind_plain open_at advance tests [] [] again test refl leads_advance at_again in
        let opens_again : open_at again ≡ true = at_again.0 refl in
        let body_places = open_front code params role open_at cb (advance ++ tests) [] first at_body in
        let opens_first : open_at first ≡ true = statements_open open_at first again level within body refl opens_again body_places in
        let at_end = subst (λ n. open_at n ≡ true) same opens in
        ticked open_at place (values ++ (beginning ++ (cb ++ (advance ++ tests)))) [] []
        (plain_then code params role open_at values (beginning ++ (cb ++ (advance ++ tests))) [] operands [] leads_values
        (runs_append code params role open_at beginning (cb ++ (advance ++ tests)) operands [] [] (begin_runs open_at place r kept step test (count_open open_at test first r kept step at_test) typed.1 own)
        (runs_append code params role open_at cb (advance ++ tests) [] [] []
        (statements_run open_at level true body first again within refl opens_again body_places (at_end, opens_again, out.2) returns cells_b puts have_b typed.5)
        (plain_then code params role open_at advance tests [] [] [] leads_advance (count_test_runs open_at test first r kept step opens_first at_end typed.1 have_step own at_test)))))

    statements_run : (open_at : ℕ → Bool) (kept : ℕ) (loop : Bool) (ts : TypedStatements) (at to : ℕ) (exits : ExitPoints) → at + statements_size numbers ts ≡ to → open_at to ≡ true → AreOpenPlaces code params role open_at [] at (statements_code numbers at kept exits ts) → AreOpenExits open_at exits
        → ReturnsOfRole role exits.return names.returns → KeptHaveTypes code role numbers.placement kept (all_types_kept ts) → AllPutsAreShort ts → HaveConstantsOfTypes code numbers (constants_of_body ts) → AreTypedStatements names loop ts
        → OperandsRun code params role open_at [] (statements_code numbers at kept exits ts) []
    statements_run open_at kept loop Finish at to exits len opens places out returns cells puts have typed = refl
    statements_run open_at kept loop (Next t rest) at to exits len opens places out returns cells puts have typed =
        let mid = at + statement_size numbers t in
        let later = kept + values_kept t in
        let ct = statement_code numbers at kept exits t in
        let cr = statements_code numbers mid later exits rest in
        let from_mid : mid + statements_size numbers rest ≡ to = omega arith in
        let have_t = front_types code numbers (constants_of_statement t) (constants_of_body rest) have in
        let have_r = back_types code numbers (constants_of_statement t) (constants_of_body rest) have in
        let cells_t = kept_front code role numbers kept (types_kept t) (all_types_kept rest) cells in
        let cells_r = kept_back code role numbers kept (values_kept t) (types_kept t) (all_types_kept rest) (kept_size t) cells in
        let anywhere = statement_runs Anywhere kept loop t at mid exits refl refl (all_open code params role ct [] at) (any_exits exits) returns cells_t puts.0 have_t typed.0 in
        let at_rest = open_behind code params role open_at Anywhere ct cr [] [] at mid (ap (λ n. at + n) (size_is numbers at kept exits t)) anywhere places in
        runs_append code params role open_at ct cr [] [] []
        (statement_runs open_at kept loop t at mid exits refl (statements_open open_at mid to later exits rest from_mid opens at_rest) (open_front code params role open_at ct cr [] at places) out returns cells_t puts.0 have_t typed.0)
        (statements_run open_at later loop rest mid to exits from_mid opens at_rest out returns cells_r puts.1 have_r typed.1)

    whens_run : (open_at : ℕ → Bool) (kept : ℕ) (loop : Bool) (subject : Subject) (whens : TypedWhens) (at to : ℕ) (exits : ExitPoints) → at + whens_size numbers (compares subject) whens ≡ to → open_at to ≡ true
        → AreOpenPlaces code params role open_at [] at (whens_code numbers at kept to exits subject whens) → AreOpenExits open_at exits → ReturnsOfRole role exits.return names.returns → KeptHaveTypes code role numbers.placement kept (whens_types_kept whens) → WhensAreShort whens
        → HaveConstantsOfTypes code numbers (constants_of_whens whens) → SubjectWhens code role numbers names loop subject whens → OperandsRun code params role open_at [] (whens_code numbers at kept to exits subject whens) []
    whens_run open_at kept loop subject NoOtherwise at to exits len opens places out returns cells puts have typed = ([], refl, tt, refl)
    whens_run open_at kept loop subject (Otherwise t) at to exits len opens places out returns cells puts have typed =
        statement_runs open_at kept loop t at to exits len opens places out returns cells puts have (when_otherwise code role numbers names loop subject t typed)
    whens_run open_at kept loop subject (When tests t rest) at to exits len opens places out returns cells puts have typed =
        let first = at + tests_size numbers (compares subject) tests in
        let back = first + statement_size numbers t in
        let next = back + 1 in
        let later = kept + values_kept t in
        let ct = tests_code numbers subject first next tests in
        let cs = statement_code numbers first kept exits t in
        let cr = whens_code numbers next later to exits subject rest in
        let from_next : next + whens_size numbers (compares subject) rest ≡ to = omega arith in
        let have_tests = front_types code numbers (constants_of_all tests) (constants_of_statement t ++ constants_of_whens rest) have in
        let have_more = back_types code numbers (constants_of_all tests) (constants_of_statement t ++ constants_of_whens rest) have in
        let have_t = front_types code numbers (constants_of_statement t) (constants_of_whens rest) have_more in
        let have_r = back_types code numbers (constants_of_statement t) (constants_of_whens rest) have_more in
        let cells_t = kept_front code role numbers kept (types_kept t) (whens_types_kept rest) cells in
        let cells_r = kept_back code role numbers kept (values_kept t) (types_kept t) (whens_types_kept rest) (kept_size t) cells in
        let typed_tests = when_tests code role numbers names loop subject tests t rest typed in
        let typed_t = when_statement code role numbers names loop subject tests t rest typed in
        let typed_r = when_rest code role numbers names loop subject tests t rest typed in
        let tests_anywhere = tests_run Anywhere subject first next tests refl refl have_tests typed_tests in
        let at_first = open_behind code params role open_at Anywhere ct (cs ++ (instr.Jump to ∷ cr)) [] [] at first (ap (λ n. at + n) (tests_size_is numbers subject first next tests)) tests_anywhere places in
        let own = open_front code params role open_at cs (instr.Jump to ∷ cr) [] first at_first in
        let anywhere = statement_runs Anywhere kept loop t first back exits refl refl (all_open code params role cs [] first) (any_exits exits) returns cells_t puts.0 have_t typed_t in
        let at_jump = open_behind code params role open_at Anywhere cs (instr.Jump to ∷ cr) [] [] first back (ap (λ n. first + n) (size_is numbers first kept exits t)) anywhere at_first in
        let at_next = behind_jump open_at to cr back at_jump in
        runs_append code params role open_at ct (cs ++ (instr.Jump to ∷ cr)) [] [] []
        (tests_run open_at subject first next tests (statement_open open_at first kept exits t own) (whens_open open_at loop next later to exits subject rest have_r typed_r at_next) have_tests typed_tests)
        (runs_append code params role open_at cs (instr.Jump to ∷ cr) [] [] []
        (statement_runs open_at kept loop t first back exits refl (at_jump.0 refl) own out returns cells_t puts.0 have_t typed_t)
        (jump open_at to cr [] opens (whens_run open_at later loop subject rest next to exits from_next opens at_next out returns cells_r puts.1 have_r typed_r)))

pub statements_have_types : StatementsRun
statements_have_types code parameters role numbers names open_at kept loop body at to exits have_types there cells len opens places out returns kept_types puts have typed =
    statements_run code parameters role numbers names have_types there cells open_at kept loop body at to exits len opens places out returns kept_types puts have typed
