-- A walk hangs on the walks of those calls alone that its statements make.
use Rattle.std.proofs.Common.{◌≡◌, ℕ, Bool, List, [], ◌∷◌, ◌++◌, Option, Some, None, refl, ap, ap₂, ◌∙◌}
use Rattle.ds2_base.specs.declared.place.Place.{Place}
use Rattle.ds2_value.specs.declared.truth.Truth.{Truth}
use Rattle.ds2_value.specs.declared.truth.Truth.TheVariants.{Yes, No, Unknown}
use Rattle.ds2_meaning.specs.Evaluation.{callee_home}
use Rattle.ds2_meaning.specs.Location.{Home, Location}
use Rattle.ds2_meaning.specs.Method.{MethodTree}
use Rattle.ds2_meaning.specs.TypedExpression.{TypedExpression, Widen, Convert, Prefixed, Chain, Compared, Applied, Called, Links, NoLink, Link, TypedExpressions, NoExpression, Then, TypedArguments, NoArgument, ByValue, InOut}
use Rattle.ds2_meaning.specs.TypedStatement.{TypedStatement, Assign, Invoke, Evaluate, SetParameters, ParameterValue, Construct, ReturnValue, Put, If, IfElse, Select, SelectValue, Block, Count, While, Until, TypedStatements, Finish, Next, TypedWhens, NoOtherwise, Otherwise, When, Item, Text, Shown, Labelled}
use Rattle.ds2_locality.specs.Deeds.{MethodAt, CodeScope, method_scope, variable_at, Deed, set_deeds, expression_deeds, link_deeds, expressions_deeds, argument_deeds, call_deeds, constructor_deeds, parameter_deeds, item_deeds, step_deeds, statement_deeds, body_deeds, when_deeds, deeds_of_method}
use Rattle.ds2_locality.specs.Verdict.{JudgedThread, past_body, walk_body}
use Rattle.ds2_locality.specs.Walk.{DirtySet, no_flag, united, all_cleaned, WalkEnd, FailsAt, GoesOn, then_walk, way_on, decided, both_ways, by_condition, TestsEnd, past_test, CallWalks, WalkScope, walk_expression, walk_links, walk_expressions, walk_arguments, walk_call, walk_constructor, walk_values, walk_items, walk_step, walk_tests, walk, walk_all, walk_whens}
use Rattle.ds2_locality.proofs.Frame.{all_front, all_back, Allowed, AreAllowed, Any}

-- ---- ends of walks

further_alike : {A B : Type 0} (a : WalkEnd A) {f g : A → WalkEnd B} → ((x : A) → f x ≡ g x) → then_walk a f ≡ then_walk a g
further_alike (FailsAt at place) h = refl
further_alike (GoesOn x) h = h x

then_alike : {A B : Type 0} {a b : WalkEnd A} {f g : A → WalkEnd B} → a ≡ b → ((x : A) → f x ≡ g x) → then_walk a f ≡ then_walk b g
then_alike {a = a} {g = g} e h = further_alike a h ∙ ap (λ o. then_walk o g) e

past_test_alike : (t : Truth) (x : DirtySet) (f g : DirtySet → WalkEnd TestsEnd) → f x ≡ g x → past_test t x f ≡ past_test t x g
past_test_alike Yes x f g e = refl
past_test_alike No x f g e = e
past_test_alike Unknown x f g e = ap (λ o. then_walk o (λ y. GoesOn (record { holding = united x y.holding; failing = y.failing }))) e

-- ---- walks

-- two walks of calls say the same of each method of which R is told; anything may be mentioned and changed
module _ (code : CodeScope) (known : Location → Bool) (calls other : CallWalks) (R : MethodAt → Type 0)
    (alike : (m : MethodAt) → R m → (place : Place) (dirty : DirtySet) → calls m place dirty ≡ other m place dirty) where
  abbrev Fine : List Deed → Type 0
  Fine deeds = AreAllowed Any Any Any R deeds

  abbrev front : (xs ys : List Deed) → Fine (xs ++ ys) → Fine xs
  front xs ys h = all_front (Allowed Any Any Any R) xs ys h

  abbrev back : (xs ys : List Deed) → Fine (xs ++ ys) → Fine ys
  back xs ys h = all_back (Allowed Any Any Any R) xs ys h

  -- with a walk of calls
  abbrev scope : CallWalks → WalkScope
  scope walks = record { code = code; calls = walks; known = known }

  -- a part, and what goes on behind it, by the deeds of each
  in_turn : {A B : Type 0} {a b : WalkEnd A} {f g : A → WalkEnd B} (xs ys : List Deed) → Fine (xs ++ ys) → (Fine xs → a ≡ b) → (Fine ys → (x : A) → f x ≡ g x)
      → then_walk a f ≡ then_walk b g
  in_turn xs ys q h k = then_alike (h (front xs ys q)) (k (back xs ys q))

  mutual
    expression_alike : (e : TypedExpression) (place : Place) (y : DirtySet) → Fine (expression_deeds code e) → walk_expression (scope calls) e place y ≡ walk_expression (scope other) e place y
    expression_alike (Widen e) place y q = expression_alike e place y q
    expression_alike (Convert e ty) place y q = expression_alike e place y q
    expression_alike (Prefixed o e ty) place y q = expression_alike e place y q
    expression_alike (Chain first links) place y q = in_turn _ _ q (expression_alike first place y) (λ p x. links_alike links place x p)
    expression_alike (Compared o left right) place y q = in_turn _ _ q (expression_alike left place y) (λ p x. expression_alike right place x p)
    expression_alike (Applied f es ty) place y q = expressions_alike es place y q
    expression_alike (Called instance m es ty) place y q =
        in_turn _ _ q (arguments_alike es place y) (λ p x. alike (record { home = callee_home code.home instance; number = m }) p.0 place x)
    expression_alike _ place y q = refl

    links_alike : (links : Links) (place : Place) (y : DirtySet) → Fine (link_deeds code links) → walk_links (scope calls) links place y ≡ walk_links (scope other) links place y
    links_alike NoLink place y q = refl
    links_alike (Link widens o e ty rest) place y q = in_turn _ _ q (expression_alike e place y) (λ p x. links_alike rest place x p)

    expressions_alike : (es : TypedExpressions) (place : Place) (y : DirtySet) → Fine (expressions_deeds code es)
        → walk_expressions (scope calls) es place y ≡ walk_expressions (scope other) es place y
    expressions_alike NoExpression place y q = refl
    expressions_alike (Then e rest) place y q = in_turn _ _ q (expression_alike e place y) (λ p x. expressions_alike rest place x p)

    arguments_alike : (es : TypedArguments) (place : Place) (y : DirtySet) → Fine (argument_deeds code es) → walk_arguments (scope calls) es place y ≡ walk_arguments (scope other) es place y
    arguments_alike NoArgument place y q = refl
    arguments_alike (ByValue e rest) place y q = in_turn _ _ q (expression_alike e place y) (λ p x. arguments_alike rest place x p)
    arguments_alike (InOut r rest) place y q = in_turn _ _ q (λ p. refl) (λ p x. arguments_alike rest place x p)

  call_alike : (instance : Option (List ℕ)) (m : ℕ) (es : TypedArguments) (place : Place) (y : DirtySet) → Fine (call_deeds code instance m es)
      → walk_call (scope calls) instance m es place y ≡ walk_call (scope other) instance m es place y
  call_alike instance m es place y q =
      in_turn _ _ q (arguments_alike es place y) (λ p x. alike (record { home = callee_home code.home instance; number = m }) p.0 place x)

  constructor_alike : (instance : List ℕ) (m : Option ℕ) (es : TypedArguments) (place : Place) (y : DirtySet) → Fine (constructor_deeds code instance m es)
      → walk_constructor (scope calls) instance m es place y ≡ walk_constructor (scope other) instance m es place y
  constructor_alike instance None es place y q = refl
  constructor_alike instance (Some m) es place y q = call_alike (Some instance) m es place y q

  values_alike : (instance : List ℕ) (ps : List ParameterValue) (place : Place) (y : DirtySet) → Fine (parameter_deeds code instance ps)
      → walk_values (scope calls) ps place y ≡ walk_values (scope other) ps place y
  values_alike instance [] place y q = refl
  values_alike instance (v ∷ ps) place y q = in_turn _ _ q (expression_alike v.value place y) (λ p x. values_alike instance ps place x p.1)

  items_alike : (items : List Item) (place : Place) (y : DirtySet) → Fine (item_deeds code items) → walk_items (scope calls) items place y ≡ walk_items (scope other) items place y
  items_alike [] place y q = refl
  items_alike (Text _ ∷ items) place y q = items_alike items place y q
  items_alike (Shown e ∷ items) place y q = in_turn _ _ q (expression_alike e place y) (λ p x. items_alike items place x p)
  items_alike (Labelled name e ∷ items) place y q = in_turn _ _ q (expression_alike e place y) (λ p x. items_alike items place x p)

  step_alike : (step : Option TypedExpression) (place : Place) (y : DirtySet) → Fine (step_deeds code step) → walk_step (scope calls) step place y ≡ walk_step (scope other) step place y
  step_alike None place y q = refl
  step_alike (Some e) place y q = expression_alike e place y q

  tests_alike : (flags : Location → Bool) (es : TypedExpressions) (place : Place) (y : DirtySet) → Fine (expressions_deeds code es)
      → walk_tests (scope calls) flags es place y ≡ walk_tests (scope other) flags es place y
  tests_alike flags NoExpression place y q = refl
  tests_alike flags (Then e rest) place y q =
      in_turn _ _ q (expression_alike e place y)
      (λ p x. past_test_alike (decided flags code.home e) x (walk_tests (scope calls) flags rest place) (walk_tests (scope other) flags rest place) (tests_alike flags rest place x p))

  mutual
    statement_alike : (st : TypedStatement) (y : DirtySet) → Fine (statement_deeds code st) → walk (scope calls) st y ≡ walk (scope other) st y
    statement_alike (Assign place r e) y q = in_turn _ _ q (expression_alike e place y) (λ p x. refl)
    statement_alike (Invoke place instance m es) y q = then_alike (call_alike instance m es place y q) (λ x. refl)
    statement_alike (Evaluate place e) y q = then_alike (expression_alike e place y q) (λ x. refl)
    statement_alike (SetParameters place instance ps) y q = then_alike (values_alike instance ps place y q) (λ x. refl)
    statement_alike (Construct place instance m es) y q = then_alike (constructor_alike instance m es place y q) (λ x. refl)
    statement_alike (ReturnValue place e) y q = then_alike (expression_alike e place y q) (λ x. refl)
    statement_alike (Put place items) y q = then_alike (items_alike items place y q.1) (λ x. refl)
    statement_alike (If place e on) y q =
        in_turn _ _ q (expression_alike e place y) (λ p x. ap (λ o. by_condition (decided known code.home e) o (GoesOn (way_on x))) (statement_alike on x p))
    statement_alike (IfElse place e on off) y q =
        in_turn _ _ (front _ _ q) (expression_alike e place y)
        (λ p x. ap₂ (by_condition (decided known code.home e)) (statement_alike on x p) (statement_alike off x (back _ _ q)))
    statement_alike (Select place whens) y q = whens_alike known whens place y q
    statement_alike (SelectValue place e whens) y q = in_turn _ _ q (expression_alike e place y) (λ p x. whens_alike no_flag whens place x p)
    statement_alike (Block place body) y q = body_alike body y q
    statement_alike (Count place r start end step body) y q =
        let before = front (expression_deeds code start ++ expression_deeds code end ++ step_deeds code step) (set_deeds code.home r) (front _ _ q) in
        in_turn _ _ (front _ _ before) (expression_alike start place y)
        (λ p x. then_alike (expression_alike end place x p)
        (λ z. then_alike (step_alike step place z (back _ _ before))
        (λ u. then_alike (body_alike body (all_cleaned (variable_at code.home r) u) (back _ _ q)) (λ ways. refl))))
    statement_alike (While place e body) y q = in_turn _ _ q (expression_alike e place y) (λ p x. then_alike (body_alike body x p) (λ ways. refl))
    statement_alike (Until place e body) y q =
        then_alike (body_alike body y (back _ _ q)) (λ ways. then_alike (expression_alike e place (united ways.onward ways.continues) (front _ _ q)) (λ x. refl))
    statement_alike _ y q = refl

    pub body_alike : (body : TypedStatements) (y : DirtySet) → Fine (body_deeds code body) → walk_all (scope calls) body y ≡ walk_all (scope other) body y
    body_alike Finish y q = refl
    body_alike (Next first rest) y q = in_turn _ _ q (statement_alike first y) (λ p x. then_alike (body_alike rest x.onward p) (λ z. refl))

    whens_alike : (flags : Location → Bool) (whens : TypedWhens) (place : Place) (y : DirtySet) → Fine (when_deeds code whens)
        → walk_whens (scope calls) flags whens place y ≡ walk_whens (scope other) flags whens place y
    whens_alike flags NoOtherwise place y q = refl
    whens_alike flags (Otherwise st) place y q = statement_alike st y q
    whens_alike flags (When es st rest) place y q =
        in_turn _ _ (front _ _ q) (tests_alike flags es place y) (λ p x. ap₂ both_ways (statement_alike st x.holding p) (whens_alike flags rest place x.failing (back _ _ q)))

-- likewise the walk of a method
module _ (t : JudgedThread) (known : Location → Bool) (calls other : CallWalks) (R : MethodAt → Type 0)
    (alike : (m : MethodAt) → R m → (place : Place) (dirty : DirtySet) → calls m place dirty ≡ other m place dirty) where
  pub method_alike : (home : Home) (o : Option MethodTree) (place : Place) (dirty : DirtySet) → AreAllowed Any Any Any R (deeds_of_method t.program home o)
      → walk_body t known calls home o place dirty ≡ walk_body t known other home o place dirty
  method_alike home None place dirty q = refl
  method_alike home (Some method) place dirty q = ap (past_body place) (body_alike (method_scope t.program home) known calls other R alike method.body dirty q)
