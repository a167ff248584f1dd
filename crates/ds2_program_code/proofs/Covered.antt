-- Typed statements are covered.
use Rattle.std.proofs.Common.{◌≡◌, ℕ, Bool, true, false, List, [], ◌∷◌, ◌++◌, map, Option, Some, None, is_some, refl, sym, ap, ◌∙◌, subst}
use Rattle.std.specs.Prelude.{slice_get}
use Rattle.ds2_value.specs.declared.ty.Ty.{Ty}
use Rattle.ds2_meaning.specs.declared.expressions.Function.{Function}
use Rattle.ds2_meaning.specs.declared.expressions.Function.TheVariants as function
use Rattle.ds2_meaning.specs.declared.globals.Variable as global_variable
use Rattle.ds2_meaning.specs.declared.methods.Parameter.{Parameter}
use Rattle.ds2_meaning.specs.Evaluation.{callee_home}
use Rattle.ds2_meaning.specs.IsTyped.{NamesInScope, TypeClass, class_of, expression_type, expression_types, IsApplication, IsTypedExpression, AreTypedLinks, AreTypedExpressions, AreTypedArguments, AreTypedConditions, AreTypedValues, IsTypedStep, AreTypedItems, AreOutputs, AreParameterValues, AreValuesFor, thread_parameters, IsTypedStatement, AreTypedStatements, AreTypedWhens, AreTypedValueWhens}
use Rattle.ds2_meaning.specs.Method.{MethodTree}
use Rattle.ds2_meaning.specs.TypedExpression.{TypedExpression, Constant, Variable, Widen, Convert, Prefixed, Chain, Compared, Applied, Called, HashCalled, IteratorCalled, Links, NoLink, Link, TypedExpressions, NoExpression, Then, TypedArguments, NoArgument, ByValue, InOut}
use Rattle.ds2_meaning.specs.TypedStatement.{TypedStatement, Empty, Assign, Invoke, Evaluate, SetParameters, ParameterValue, Construct, Leave, Continue, Return, ReturnValue, Output, Put, If, IfElse, Select, SelectValue, Block, Count, While, Until, TypedStatements, Finish, Next, TypedWhens, NoOtherwise, Otherwise, When, Item, Text, Shown, Labelled}
use Rattle.ds2_code.specs.declared.parts.ParameterPart.{ParameterPart}
use Rattle.ds2_code.specs.declared.parts.ProgramParts.{ProgramParts}
use Rattle.ds2_gen.specs.CodePieces.{ReturnWay, JumpsToEnd, HandsBack}
use Rattle.ds2_gen.specs.CoveredForms.{ReturnsNothing, TakesCount, HaveOutputs, ArgumentsFit, HasCallee, IsCoveredExpression, AreCoveredExpressions, AreCoveredArguments, AreCoveredLinks, AreCoveredItems, IsCoveredStep, AreCoveredParameters, IsCoveredStatement, AreCoveredStatements, AreCoveredWhens}
use Rattle.ds2_gen.specs.ExpressionCode.{CodeNumbers, expressions_count}
use Rattle.ds2_gen.specs.MethodCode.{parameter_part}
use Rattle.ds2_program_code.specs.TypedIsCovered.{NamesHavePlaces, ReturnsAs, TypedIsCovered}
use Rattle.ds2_program_code.specs.UsedConstants.{UsedConstant, constants_used, constants_of_links, constants_of_all, constants_of_arguments, constants_of_items, constants_of_step, constants_of_parameters, constants_of_statement, constants_of_body, constants_of_whens, HaveConstants}
use Rattle.ds2_program_code.proofs.FunctionTypes.{function_counts}

-- ---- how many arguments functions take

one_of : (f : Function) (arguments : TypedExpressions) (ty : Ty) → (IsApplication f [] ty → ⊥) → ((a b : Ty) (rest : List Ty) → IsApplication f (a ∷ b ∷ rest) ty → ⊥) → IsApplication f (expression_types arguments) ty → expressions_count arguments ≡ 1
one_of f NoExpression ty none more is = absurd (none is)
one_of f (Then e NoExpression) ty none more is = refl
one_of f (Then e (Then g rest)) ty none more is = absurd (more (expression_type e) (expression_type g) (expression_types rest) is)

takes_count : (f : Function) (arguments : TypedExpressions) (ty : Ty) → IsApplication f (expression_types arguments) ty → TakesCount f (expressions_count arguments)
takes_count (function.Value f) arguments ty is = function_counts f arguments ty is
takes_count function.Coalesce arguments ty is = tt
takes_count function.Least arguments ty is = tt
takes_count function.Greatest arguments ty is = tt
takes_count function.Unchanged arguments ty is = one_of function.Unchanged arguments ty (λ h. h) (λ a b rest h. h) is

-- ---- constants

module _ (code : ProgramParts) (numbers : CodeNumbers) where
  front_have : (xs ys : List UsedConstant) → HaveConstants code numbers (xs ++ ys) → HaveConstants code numbers xs
  front_have [] ys h = tt
  front_have (x ∷ xs) ys h = (h.0, front_have xs ys h.1)

  back_have : (xs ys : List UsedConstant) → HaveConstants code numbers (xs ++ ys) → HaveConstants code numbers ys
  back_have [] ys h = h
  back_have (x ∷ xs) ys h = back_have xs ys h.1

-- ---- returns

returns_nothing : (way : ReturnWay) (returns : Option Ty) → ReturnsAs way returns → returns ≡ None → ReturnsNothing way
returns_nothing (JumpsToEnd end) returns agrees e = tt
returns_nothing (HandsBack true) None agrees e = agrees
returns_nothing (HandsBack true) (Some ty) agrees e = absurd cc
returns_nothing (HandsBack false) returns agrees e = tt

hands_back : (way : ReturnWay) (returns : Option Ty) (ty : Ty) → ReturnsAs way returns → returns ≡ Some ty → way ≡ HandsBack true
hands_back (JumpsToEnd end) None ty agrees e = absurd cc
hands_back (JumpsToEnd end) (Some x) ty agrees e = absurd agrees
hands_back (HandsBack true) returns ty agrees e = refl
hands_back (HandsBack false) None ty agrees e = absurd cc
hands_back (HandsBack false) (Some x) ty agrees e = absurd agrees

module _ (code : ProgramParts) (numbers : CodeNumbers) (names : NamesInScope) (places : NamesHavePlaces code numbers names) where
  -- ---- calls

  arguments_fit : (ps : List Parameter) (arguments : TypedArguments) → AreTypedArguments names ps arguments → ArgumentsFit (map parameter_part ps) arguments
  arguments_fit [] NoArgument typed = tt
  arguments_fit [] (ByValue e rest) typed = absurd typed
  arguments_fit [] (InOut r rest) typed = absurd typed
  arguments_fit (p ∷ ps) NoArgument typed = absurd typed
  arguments_fit (p ∷ ps) (ByValue e rest) typed = (typed.0, arguments_fit ps rest typed.3)
  arguments_fit (p ∷ ps) (InOut r rest) typed = (typed.0, arguments_fit ps rest typed.3)

  part_fits : (method : MethodTree) (arguments : TypedArguments) (parts : List ParameterPart) → parts ≡ map parameter_part method.parameters → AreTypedArguments names method.parameters arguments → ArgumentsFit parts arguments
  part_fits method arguments parts same typed = subst (λ ps. ArgumentsFit ps arguments) (sym same) (arguments_fit method.parameters arguments typed)

  callable : (instance : Option (List ℕ)) (number : ℕ) (method : MethodTree) (arguments : TypedArguments) → slice_get (names.methods instance) number ≡ Some method → AreTypedArguments names method.parameters arguments
      → HasCallee code numbers (callee_home numbers.home instance) number arguments
  callable instance number method arguments there typed =
      let it = places.methods instance number method there in
      record { callee = it.callee; part = it.part; placed = it.placed; coded = it.coded; fit = part_fits method arguments it.part.parameters it.parameters typed }

  -- ---- expressions

  mutual
    expression_covered : (e : TypedExpression) → HaveConstants code numbers (constants_used e) → IsTypedExpression names e → IsCoveredExpression code numbers e
    expression_covered (Constant v ty) have typed = have.0
    expression_covered (Variable r ty) have typed = places.variables r ty typed
    expression_covered (Widen e) have typed = expression_covered e have typed.0
    expression_covered (Convert e ty) have typed = expression_covered e have typed.0
    expression_covered (Prefixed x e ty) have typed = expression_covered e have typed.0
    expression_covered (Chain first links) have typed =
        (expression_covered first (front_have code numbers (constants_used first) (constants_of_links links) have) typed.0, links_covered links (expression_type first) (back_have code numbers (constants_used first) (constants_of_links links) have) typed.1)
    expression_covered (Compared comparison left right) have typed =
        (expression_covered left (front_have code numbers (constants_used left) (constants_used right) have) typed.0, expression_covered right (back_have code numbers (constants_used left) (constants_used right) have) typed.1)
    expression_covered (Applied f arguments ty) have typed = (takes_count f arguments ty typed.1, expressions_covered arguments have typed.0)
    expression_covered (Called instance number arguments ty) have typed =
        let it = places.methods instance number typed.0 typed.1 in (
          record { callee = it.callee; part = it.part; placed = it.placed; coded = it.coded; fit = part_fits typed.0 arguments it.part.parameters it.parameters typed.3 },
          it.result ∙ ap is_some typed.2,
          arguments_covered typed.0.parameters arguments have typed.3,
        )
    expression_covered (HashCalled hash f) have typed = places.hashes hash typed
    expression_covered (IteratorCalled iterator f) have typed = places.iterators iterator typed

    links_covered : (links : Links) (ty : Ty) → HaveConstants code numbers (constants_of_links links) → AreTypedLinks names ty links → AreCoveredLinks code numbers links
    links_covered NoLink ty have typed = tt
    links_covered (Link widens o e to rest) ty have typed =
        (expression_covered e (front_have code numbers (constants_used e) (constants_of_links rest) have) typed.0, links_covered rest to (back_have code numbers (constants_used e) (constants_of_links rest) have) typed.2)

    expressions_covered : (es : TypedExpressions) → HaveConstants code numbers (constants_of_all es) → AreTypedExpressions names es → AreCoveredExpressions code numbers es
    expressions_covered NoExpression have typed = tt
    expressions_covered (Then e rest) have typed =
        (expression_covered e (front_have code numbers (constants_used e) (constants_of_all rest) have) typed.0, expressions_covered rest (back_have code numbers (constants_used e) (constants_of_all rest) have) typed.1)

    arguments_covered : (ps : List Parameter) (arguments : TypedArguments) → HaveConstants code numbers (constants_of_arguments arguments) → AreTypedArguments names ps arguments → AreCoveredArguments code numbers arguments
    arguments_covered [] NoArgument have typed = tt
    arguments_covered [] (ByValue e rest) have typed = absurd typed
    arguments_covered [] (InOut r rest) have typed = absurd typed
    arguments_covered (p ∷ ps) NoArgument have typed = absurd typed
    arguments_covered (p ∷ ps) (ByValue e rest) have typed =
        (expression_covered e (front_have code numbers (constants_used e) (constants_of_arguments rest) have) typed.1, arguments_covered ps rest (back_have code numbers (constants_used e) (constants_of_arguments rest) have) typed.3)
    arguments_covered (p ∷ ps) (InOut r rest) have typed = (places.variables r p.ty typed.2, arguments_covered ps rest have typed.3)

  -- ---- parts of statements

  conditions_covered : (es : TypedExpressions) → HaveConstants code numbers (constants_of_all es) → AreTypedConditions names es → AreCoveredExpressions code numbers es
  conditions_covered NoExpression have typed = tt
  conditions_covered (Then e rest) have typed =
      (expression_covered e (front_have code numbers (constants_used e) (constants_of_all rest) have) typed.0.0, conditions_covered rest (back_have code numbers (constants_used e) (constants_of_all rest) have) typed.1)

  values_covered : (kind : TypeClass) (es : TypedExpressions) → HaveConstants code numbers (constants_of_all es) → AreTypedValues names kind es → AreCoveredExpressions code numbers es
  values_covered kind NoExpression have typed = tt
  values_covered kind (Then e rest) have typed =
      (expression_covered e (front_have code numbers (constants_used e) (constants_of_all rest) have) typed.0, values_covered kind rest (back_have code numbers (constants_used e) (constants_of_all rest) have) typed.2)

  step_covered : (step : Option TypedExpression) → HaveConstants code numbers (constants_of_step step) → IsTypedStep names step → IsCoveredStep code numbers step
  step_covered None have typed = have.0
  step_covered (Some e) have typed = (expression_covered e have.1 typed.0, have.0)

  items_covered : (items : List Item) → HaveConstants code numbers (constants_of_items items) → AreTypedItems names items → AreCoveredItems code numbers items
  items_covered [] have typed = tt
  items_covered (Text t ∷ items) have typed = (have.0, items_covered items have.1 typed)
  items_covered (Shown e ∷ items) have typed =
      (expression_covered e (front_have code numbers (constants_used e) (constants_of_items items) have) typed.0, items_covered items (back_have code numbers (constants_used e) (constants_of_items items) have) typed.1)
  items_covered (Labelled name e ∷ items) have typed =
      (have.0, expression_covered e (front_have code numbers (constants_used e) (constants_of_items items) have.1) typed.0, items_covered items (back_have code numbers (constants_used e) (constants_of_items items) have.1) typed.1)

  outputs_covered : (ns : List ℕ) → AreOutputs names ns → HaveOutputs code numbers ns
  outputs_covered [] typed = tt
  outputs_covered (n ∷ ns) typed = (places.outputs n typed.0, outputs_covered ns typed.1)

  parameters_covered : (instance : List ℕ) (parameters : List global_variable.Variable) (values : List ParameterValue) → HaveConstants code numbers (constants_of_parameters values) → AreParameterValues names parameters values
      → AreCoveredParameters code numbers instance values
  parameters_covered instance [] [] have typed = tt
  parameters_covered instance [] (v ∷ values) have typed = absurd typed
  parameters_covered instance (p ∷ parameters) [] have typed = absurd typed
  parameters_covered instance (p ∷ parameters) (v ∷ values) have typed = (
    places.stage_parameters instance v.parameter,
    expression_covered v.value (front_have code numbers (constants_used v.value) (constants_of_parameters values) have) typed.1,
    parameters_covered instance parameters values (back_have code numbers (constants_used v.value) (constants_of_parameters values) have) typed.3,
  )

  set_covered : (instance : List ℕ) (o : Option (List global_variable.Variable)) (values : List ParameterValue) → HaveConstants code numbers (constants_of_parameters values) → AreValuesFor names o values → AreCoveredParameters code numbers instance values
  set_covered instance None values have typed = absurd typed
  set_covered instance (Some parameters) values have typed = parameters_covered instance parameters values have typed

  -- ---- statements

  module _ (way : ReturnWay) (agrees : ReturnsAs way names.returns) where
    mutual
      statement_covered : (loop : Bool) (t : TypedStatement) → HaveConstants code numbers (constants_of_statement t) → IsTypedStatement names loop t → IsCoveredStatement code numbers way t
      statement_covered loop (Empty place) have typed = tt
      statement_covered loop (Assign place r e) have typed = (places.variables r (expression_type e) typed.2, expression_covered e have typed.1)
      statement_covered loop (Invoke place instance number arguments) have typed =
          (callable instance number typed.0 arguments typed.1 typed.2, arguments_covered typed.0.parameters arguments have typed.2)
      statement_covered loop (Evaluate place e) have typed = expression_covered e have typed
      statement_covered loop (SetParameters place instance values) have typed = set_covered instance (thread_parameters names.threads instance) values have typed
      statement_covered loop (Construct place instance constructor arguments) have typed = absurd typed
      statement_covered loop (Leave place) have typed = tt
      statement_covered loop (Continue place) have typed = tt
      statement_covered loop (Return place) have typed = returns_nothing way names.returns agrees typed
      statement_covered loop (ReturnValue place e) have typed = (hands_back way names.returns (expression_type e) agrees typed.1, expression_covered e have typed.0)
      statement_covered loop (Output place ns) have typed = outputs_covered ns typed.1
      statement_covered loop (Put place items) have typed = items_covered items have typed
      statement_covered loop (If place e on) have typed =
          (expression_covered e (front_have code numbers (constants_used e) (constants_of_statement on) have) typed.0.0, statement_covered loop on (back_have code numbers (constants_used e) (constants_of_statement on) have) typed.1)
      statement_covered loop (IfElse place e on off) have typed =
          let rest = back_have code numbers (constants_used e) (constants_of_statement on ++ constants_of_statement off) have in (
            expression_covered e (front_have code numbers (constants_used e) (constants_of_statement on ++ constants_of_statement off) have) typed.0.0,
            statement_covered loop on (front_have code numbers (constants_of_statement on) (constants_of_statement off) rest) typed.1,
            statement_covered loop off (back_have code numbers (constants_of_statement on) (constants_of_statement off) rest) typed.2,
          )
      statement_covered loop (Select place whens) have typed = whens_covered loop whens have typed
      statement_covered loop (SelectValue place e whens) have typed =
          (expression_covered e (front_have code numbers (constants_used e) (constants_of_whens whens) have) typed.0, cases_covered loop (class_of (expression_type e)) whens (back_have code numbers (constants_used e) (constants_of_whens whens) have) typed.1)
      statement_covered loop (Block place body) have typed = statements_covered loop body have typed
      statement_covered loop (Count place r start end step body) have typed =
          let rest1 = back_have code numbers (constants_used start) (constants_used end ++ (constants_of_step step ++ constants_of_body body)) have in
          let rest2 = back_have code numbers (constants_used end) (constants_of_step step ++ constants_of_body body) rest1 in (
            places.variables r _ typed.1,
            expression_covered start (front_have code numbers (constants_used start) (constants_used end ++ (constants_of_step step ++ constants_of_body body)) have) typed.2.0,
            expression_covered end (front_have code numbers (constants_used end) (constants_of_step step ++ constants_of_body body) rest1) typed.3.0,
            step_covered step (front_have code numbers (constants_of_step step) (constants_of_body body) rest2) typed.4,
            statements_covered true body (back_have code numbers (constants_of_step step) (constants_of_body body) rest2) typed.5,
          )
      statement_covered loop (While place e body) have typed =
          (expression_covered e (front_have code numbers (constants_used e) (constants_of_body body) have) typed.0.0, statements_covered true body (back_have code numbers (constants_used e) (constants_of_body body) have) typed.1)
      statement_covered loop (Until place e body) have typed =
          (expression_covered e (front_have code numbers (constants_used e) (constants_of_body body) have) typed.0.0, statements_covered true body (back_have code numbers (constants_used e) (constants_of_body body) have) typed.1)

      pub statements_covered : (loop : Bool) (ts : TypedStatements) → HaveConstants code numbers (constants_of_body ts) → AreTypedStatements names loop ts → AreCoveredStatements code numbers way ts
      statements_covered loop Finish have typed = tt
      statements_covered loop (Next t rest) have typed =
          (statement_covered loop t (front_have code numbers (constants_of_statement t) (constants_of_body rest) have) typed.0, statements_covered loop rest (back_have code numbers (constants_of_statement t) (constants_of_body rest) have) typed.1)

      whens_covered : (loop : Bool) (whens : TypedWhens) → HaveConstants code numbers (constants_of_whens whens) → AreTypedWhens names loop whens → AreCoveredWhens code numbers way whens
      whens_covered loop NoOtherwise have typed = tt
      whens_covered loop (Otherwise t) have typed = statement_covered loop t have typed
      whens_covered loop (When tests t rest) have typed =
          let more = back_have code numbers (constants_of_all tests) (constants_of_statement t ++ constants_of_whens rest) have in (
            conditions_covered tests (front_have code numbers (constants_of_all tests) (constants_of_statement t ++ constants_of_whens rest) have) typed.0,
            statement_covered loop t (front_have code numbers (constants_of_statement t) (constants_of_whens rest) more) typed.1,
            whens_covered loop rest (back_have code numbers (constants_of_statement t) (constants_of_whens rest) more) typed.2,
          )

      cases_covered : (loop : Bool) (kind : TypeClass) (whens : TypedWhens) → HaveConstants code numbers (constants_of_whens whens) → AreTypedValueWhens names loop kind whens → AreCoveredWhens code numbers way whens
      cases_covered loop kind NoOtherwise have typed = tt
      cases_covered loop kind (Otherwise t) have typed = statement_covered loop t have typed
      cases_covered loop kind (When tests t rest) have typed =
          let more = back_have code numbers (constants_of_all tests) (constants_of_statement t ++ constants_of_whens rest) have in (
            values_covered kind tests (front_have code numbers (constants_of_all tests) (constants_of_statement t ++ constants_of_whens rest) have) typed.0,
            statement_covered loop t (front_have code numbers (constants_of_statement t) (constants_of_whens rest) more) typed.1,
            cases_covered loop kind rest (back_have code numbers (constants_of_statement t) (constants_of_whens rest) more) typed.2,
          )

pub typed_is_covered : TypedIsCovered
typed_is_covered code numbers names way loop body places agrees have typed = statements_covered code numbers names places way agrees loop body have typed
