-- A walk dirties nothing: past it no more is dirty than before it.
use Rattle.std.proofs.Common.{ℕ, Bool, true, false, List, [], ◌∷◌, Option, Some, None, refl, if◌then◌else◌}
use Rattle.ds2_base.specs.declared.place.Place.{Place}
use Rattle.ds2_value.specs.declared.hash_function.HashFunction.{HashFunction}
use Rattle.ds2_value.specs.declared.truth.Truth.{Truth}
use Rattle.ds2_value.specs.declared.truth.Truth.TheVariants.{Yes, No, Unknown}
use Rattle.ds2_meaning.specs.declared.hashes.DeclaredHash.{DeclaredHash}
use Rattle.ds2_meaning.specs.declared.hashes.DeclaredIterator.{DeclaredIterator}
use Rattle.ds2_meaning.specs.Evaluation.{callee_home}
use Rattle.ds2_meaning.specs.HashObjects.{hash_named, iterator_named, object_at}
use Rattle.ds2_meaning.specs.Location.{Location}
use Rattle.ds2_meaning.specs.TypedExpression.{TypedExpression, Constant, Variable, Widen, Convert, Prefixed, Chain, Compared, Applied, Called, HashCalled, IteratorCalled, Links, NoLink, Link, TypedExpressions, NoExpression, Then, TypedArguments, NoArgument, ByValue, InOut}
use Rattle.ds2_meaning.specs.TypedStatement.{TypedStatement, Empty, Assign, Invoke, Evaluate, SetParameters, ParameterValue, Construct, Leave, Continue, Return, ReturnValue, Output, Put, If, IfElse, Select, SelectValue, Block, Count, While, Until, TypedStatements, Finish, Next, TypedWhens, NoOtherwise, Otherwise, When, Item, Text, Shown, Labelled}
use Rattle.ds2_locality.specs.Deeds.{MethodAt, variable_at, columns_written}
use Rattle.ds2_locality.specs.Walk.{DirtySet, nothing_dirty, no_flag, united, all_cleaned, WalkEnd, FailsAt, GoesOn, then_walk, read_locations, WaysOut, no_way, way_on, ways_past, past_loop, past_last_test, decided, both_ways, by_condition, TestsEnd, past_test, read_by_hash, cleaned_by_hash, walk_hash_call, walk_iterator_call, WalkScope, walk_expression, walk_links, walk_expressions, walk_arguments, walk_call, walk_constructor, walk_values, walk_items, walk_step, walk_tests, walk, walk_all, walk_whens}
use Rattle.ds2_locality.proofs.Near.{Below, both_clean, all_cleaned_below}

abbrev pub WithinAt : DirtySet → WalkEnd DirtySet → Type 0
WithinAt d (FailsAt at place) = Unit {0}
WithinAt d (GoesOn x) = Below x d

abbrev pub WaysWithin : DirtySet → WalkEnd WaysOut → Type 0
WaysWithin d (FailsAt at place) = Unit {0}
WaysWithin d (GoesOn x) = Below x.onward d × Below x.leaves d × Below x.continues d × Below x.returns d

abbrev pub TestsWithin : DirtySet → WalkEnd TestsEnd → Type 0
TestsWithin d (FailsAt at place) = Unit {0}
TestsWithin d (GoesOn x) = Below x.holding d × Below x.failing d

module _ (d : DirtySet) where
  pub none_below : Below nothing_dirty d
  none_below at e = refl

  pub united_below : (a b : DirtySet) → Below a d → Below b d → Below (united a b) d
  united_below a b f g at e = both_clean (a at) (b at) (f at e) (g at e)

  pub then_within : (o : WalkEnd DirtySet) (go : DirtySet → WalkEnd DirtySet) → WithinAt d o → ((x : DirtySet) → Below x d → WithinAt d (go x)) → WithinAt d (then_walk o go)
  then_within (FailsAt at place) go h k = tt
  then_within (GoesOn x) go h k = k x h

  then_ways : (o : WalkEnd DirtySet) (go : DirtySet → WalkEnd WaysOut) → WithinAt d o → ((x : DirtySet) → Below x d → WaysWithin d (go x)) → WaysWithin d (then_walk o go)
  then_ways (FailsAt at place) go h k = tt
  then_ways (GoesOn x) go h k = k x h

  then_tests : (o : WalkEnd DirtySet) (go : DirtySet → WalkEnd TestsEnd) → WithinAt d o → ((x : DirtySet) → Below x d → TestsWithin d (go x)) → TestsWithin d (then_walk o go)
  then_tests (FailsAt at place) go h k = tt
  then_tests (GoesOn x) go h k = k x h

  ways_then : (o : WalkEnd WaysOut) (go : WaysOut → WalkEnd WaysOut) → WaysWithin d o
      → ((x : WaysOut) → Below x.onward d × Below x.leaves d × Below x.continues d × Below x.returns d → WaysWithin d (go x)) → WaysWithin d (then_walk o go)
  ways_then (FailsAt at place) go h k = tt
  ways_then (GoesOn x) go h k = k x h

  way_within : (x : DirtySet) → Below x d → WaysWithin d (GoesOn (way_on x))
  way_within x b = (b, none_below, none_below, none_below)

  both_within : (o q : WalkEnd WaysOut) → WaysWithin d o → WaysWithin d q → WaysWithin d (both_ways o q)
  both_within (FailsAt at place) q h k = tt
  both_within (GoesOn x) (FailsAt at place) h k = tt
  both_within (GoesOn x) (GoesOn y) h k =
      (united_below x.onward y.onward h.0 k.0, united_below x.leaves y.leaves h.1 k.1, united_below x.continues y.continues h.2 k.2, united_below x.returns y.returns h.3 k.3)

  condition_within : (t : Truth) (o q : WalkEnd WaysOut) → WaysWithin d o → WaysWithin d q → WaysWithin d (by_condition t o q)
  condition_within Yes o q h k = h
  condition_within No o q h k = k
  condition_within Unknown o q h k = both_within o q h k

  reads_by : (b : Bool) (place : Place) (at : Location) (more : List Location) (y : DirtySet) → WithinAt d (read_locations place more y)
      → WithinAt d (then_walk (if b then FailsAt at place else GoesOn y) (read_locations place more))
  reads_by true place at more y h = tt
  reads_by false place at more y h = h

  pub reads_within : (place : Place) (ats : List Location) (y : DirtySet) → Below y d → WithinAt d (read_locations place ats y)
  reads_within place [] y b = b
  reads_within place (at ∷ more) y b = reads_by (y at) place at more y (reads_within place more y b)

  module _ (s : WalkScope) (calls_within : (m : MethodAt) (place : Place) (y : DirtySet) → Below y d → WithinAt d (s.calls m place y)) where
    hash_within : (f : HashFunction) (o : Option DeclaredHash) (place : Place) (y : DirtySet) → Below y d → WithinAt d (walk_hash_call s.code f o place y)
    hash_within f None place y b = b
    hash_within f (Some h) place y b =
        then_within (read_locations place (read_by_hash s.code.home f h) y) (λ x. GoesOn (all_cleaned (cleaned_by_hash s.code.home s.code.objects.iterators f h) x))
        (reads_within place (read_by_hash s.code.home f h) y b)
        (λ x c at e. all_cleaned_below (cleaned_by_hash s.code.home s.code.objects.iterators f h) x at (c at e))

    iterator_within : (o : Option DeclaredIterator) (place : Place) (y : DirtySet) → Below y d → WithinAt d (walk_iterator_call s.code o place y)
    iterator_within None place y b = b
    iterator_within (Some i) place y b = reads_within place (object_at s.code.home i.name ∷ object_at s.code.home i.hash ∷ []) y b

    mutual
      pub expression_within : (e : TypedExpression) (place : Place) (y : DirtySet) → Below y d → WithinAt d (walk_expression s e place y)
      expression_within (Constant v ty) place y b = b
      expression_within (Variable r ty) place y b = reads_within place (variable_at s.code.home r) y b
      expression_within (Widen e) place y b = expression_within e place y b
      expression_within (Convert e ty) place y b = expression_within e place y b
      expression_within (Prefixed o e ty) place y b = expression_within e place y b
      expression_within (Chain first links) place y b = then_within (walk_expression s first place y) (walk_links s links place) (expression_within first place y b) (λ x c. links_within links place x c)
      expression_within (Compared o left right) place y b =
          then_within (walk_expression s left place y) (walk_expression s right place) (expression_within left place y b) (λ x c. expression_within right place x c)
      expression_within (Applied f es ty) place y b = expressions_within es place y b
      expression_within (Called instance m es ty) place y b =
          then_within (walk_arguments s es place y) (s.calls (record { home = callee_home s.code.home instance; number = m }) place) (arguments_within es place y b)
          (λ x c. calls_within (record { home = callee_home s.code.home instance; number = m }) place x c)
      expression_within (HashCalled name f) place y b = hash_within f (hash_named s.code.objects.hashes name) place y b
      expression_within (IteratorCalled name f) place y b = iterator_within (iterator_named s.code.objects.iterators name) place y b

      links_within : (links : Links) (place : Place) (y : DirtySet) → Below y d → WithinAt d (walk_links s links place y)
      links_within NoLink place y b = b
      links_within (Link widens o e ty rest) place y b = then_within (walk_expression s e place y) (walk_links s rest place) (expression_within e place y b) (λ x c. links_within rest place x c)

      expressions_within : (es : TypedExpressions) (place : Place) (y : DirtySet) → Below y d → WithinAt d (walk_expressions s es place y)
      expressions_within NoExpression place y b = b
      expressions_within (Then e rest) place y b = then_within (walk_expression s e place y) (walk_expressions s rest place) (expression_within e place y b) (λ x c. expressions_within rest place x c)

      arguments_within : (es : TypedArguments) (place : Place) (y : DirtySet) → Below y d → WithinAt d (walk_arguments s es place y)
      arguments_within NoArgument place y b = b
      arguments_within (ByValue e rest) place y b = then_within (walk_expression s e place y) (walk_arguments s rest place) (expression_within e place y b) (λ x c. arguments_within rest place x c)
      arguments_within (InOut r rest) place y b =
          then_within (read_locations place (variable_at s.code.home r) y) (walk_arguments s rest place) (reads_within place (variable_at s.code.home r) y b) (λ x c. arguments_within rest place x c)

    call_within : (instance : Option (List ℕ)) (m : ℕ) (es : TypedArguments) (place : Place) (y : DirtySet) → Below y d → WithinAt d (walk_call s instance m es place y)
    call_within instance m es place y b =
        then_within (walk_arguments s es place y) (s.calls (record { home = callee_home s.code.home instance; number = m }) place) (arguments_within es place y b)
        (λ x c. calls_within (record { home = callee_home s.code.home instance; number = m }) place x c)

    constructor_within : (instance : List ℕ) (m : Option ℕ) (es : TypedArguments) (place : Place) (y : DirtySet) → Below y d → WithinAt d (walk_constructor s instance m es place y)
    constructor_within instance None es place y b = b
    constructor_within instance (Some m) es place y b = call_within (Some instance) m es place y b

    values_within : (ps : List ParameterValue) (place : Place) (y : DirtySet) → Below y d → WithinAt d (walk_values s ps place y)
    values_within [] place y b = b
    values_within (q ∷ ps) place y b = then_within (walk_expression s q.value place y) (walk_values s ps place) (expression_within q.value place y b) (λ x c. values_within ps place x c)

    items_within : (items : List Item) (place : Place) (y : DirtySet) → Below y d → WithinAt d (walk_items s items place y)
    items_within [] place y b = b
    items_within (Text t ∷ items) place y b = items_within items place y b
    items_within (Shown e ∷ items) place y b = then_within (walk_expression s e place y) (walk_items s items place) (expression_within e place y b) (λ x c. items_within items place x c)
    items_within (Labelled name e ∷ items) place y b = then_within (walk_expression s e place y) (walk_items s items place) (expression_within e place y b) (λ x c. items_within items place x c)

    pub step_within : (step : Option TypedExpression) (place : Place) (y : DirtySet) → Below y d → WithinAt d (walk_step s step place y)
    step_within None place y b = b
    step_within (Some e) place y b = expression_within e place y b

    holding_more : (x : DirtySet) → Below x d → (o : WalkEnd TestsEnd) → TestsWithin d o → TestsWithin d (then_walk o (λ y. GoesOn (record { holding = united x y.holding; failing = y.failing })))
    holding_more x b (FailsAt at place) h = tt
    holding_more x b (GoesOn y) h = (united_below x y.holding b h.0, h.1)

    test_within : (t : Truth) (x : DirtySet) (go : DirtySet → WalkEnd TestsEnd) → Below x d → TestsWithin d (go x) → TestsWithin d (past_test t x go)
    test_within Yes x go b h = (b, none_below)
    test_within No x go b h = h
    test_within Unknown x go b h = holding_more x b (go x) h

    tests_within : (known : Location → Bool) (es : TypedExpressions) (place : Place) (y : DirtySet) → Below y d → TestsWithin d (walk_tests s known es place y)
    tests_within known NoExpression place y b = (none_below, b)
    tests_within known (Then e rest) place y b =
        then_tests (walk_expression s e place y) (λ x. past_test (decided known s.code.home e) x (walk_tests s known rest place)) (expression_within e place y b)
        (λ x c. test_within (decided known s.code.home e) x (walk_tests s known rest place) c (tests_within known rest place x c))

    tests_then : (o : WalkEnd TestsEnd) (go : TestsEnd → WalkEnd WaysOut) → TestsWithin d o → ((x : TestsEnd) → Below x.holding d → Below x.failing d → WaysWithin d (go x)) → WaysWithin d (then_walk o go)
    tests_then (FailsAt at place) go h k = tt
    tests_then (GoesOn x) go h k = k x h.0 h.1

    mutual
      pub statement_within : (t : TypedStatement) (y : DirtySet) → Below y d → WaysWithin d (walk s t y)
      statement_within (Empty place) y b = way_within y b
      statement_within (Assign place r e) y b =
          then_ways (walk_expression s e place y) (λ x. GoesOn (way_on (all_cleaned (variable_at s.code.home r) x))) (expression_within e place y b)
          (λ x c. way_within (all_cleaned (variable_at s.code.home r) x) (λ at f. all_cleaned_below (variable_at s.code.home r) x at (c at f)))
      statement_within (Invoke place instance m es) y b = then_ways (walk_call s instance m es place y) (λ x. GoesOn (way_on x)) (call_within instance m es place y b) (λ x c. way_within x c)
      statement_within (Evaluate place e) y b = then_ways (walk_expression s e place y) (λ x. GoesOn (way_on x)) (expression_within e place y b) (λ x c. way_within x c)
      statement_within (SetParameters place instance ps) y b = then_ways (walk_values s ps place y) (λ x. GoesOn (way_on x)) (values_within ps place y b) (λ x c. way_within x c)
      statement_within (Construct place instance m es) y b =
          then_ways (walk_constructor s instance m es place y) (λ x. GoesOn (way_on x)) (constructor_within instance m es place y b) (λ x c. way_within x c)
      statement_within (Leave place) y b = (none_below, b, none_below, none_below)
      statement_within (Continue place) y b = (none_below, none_below, b, none_below)
      statement_within (Return place) y b = (none_below, none_below, none_below, b)
      statement_within (ReturnValue place e) y b =
          then_ways (walk_expression s e place y) (λ x. GoesOn (record no_way { returns = x })) (expression_within e place y b) (λ x c. (none_below, none_below, none_below, c))
      statement_within (Output place ns) y b = then_ways (read_locations place (columns_written s.code ns) y) (λ x. GoesOn (way_on x)) (reads_within place (columns_written s.code ns) y b) (λ x c. way_within x c)
      statement_within (Put place items) y b = then_ways (walk_items s items place y) (λ x. GoesOn (way_on x)) (items_within items place y b) (λ x c. way_within x c)
      statement_within (If place e on) y b =
          then_ways (walk_expression s e place y) (λ x. by_condition (decided s.known s.code.home e) (walk s on x) (GoesOn (way_on x))) (expression_within e place y b)
          (λ x c. condition_within (decided s.known s.code.home e) (walk s on x) (GoesOn (way_on x)) (statement_within on x c) (way_within x c))
      statement_within (IfElse place e on off) y b =
          then_ways (walk_expression s e place y) (λ x. by_condition (decided s.known s.code.home e) (walk s on x) (walk s off x)) (expression_within e place y b)
          (λ x c. condition_within (decided s.known s.code.home e) (walk s on x) (walk s off x) (statement_within on x c) (statement_within off x c))
      statement_within (Select place whens) y b = whens_within s.known whens place y b
      statement_within (SelectValue place e whens) y b = then_ways (walk_expression s e place y) (walk_whens s no_flag whens place) (expression_within e place y b) (λ x c. whens_within no_flag whens place x c)
      statement_within (Block place body) y b = body_within body y b
      statement_within (Count place r start end step body) y b =
          then_ways (walk_expression s start place y) (λ x. then_walk (walk_expression s end place x) (λ z. then_walk (walk_step s step place z) (λ q.
          then_walk (walk_all s body (all_cleaned (variable_at s.code.home r) q)) (λ ways. GoesOn (past_loop (all_cleaned (variable_at s.code.home r) q) ways))))) (expression_within start place y b)
          (λ x c. then_ways (walk_expression s end place x) (λ z. then_walk (walk_step s step place z) (λ q.
          then_walk (walk_all s body (all_cleaned (variable_at s.code.home r) q)) (λ ways. GoesOn (past_loop (all_cleaned (variable_at s.code.home r) q) ways)))) (expression_within end place x c)
          (λ z f. then_ways (walk_step s step place z) (λ q.
          then_walk (walk_all s body (all_cleaned (variable_at s.code.home r) q)) (λ ways. GoesOn (past_loop (all_cleaned (variable_at s.code.home r) q) ways))) (step_within step place z f)
          (λ q g. let head : Below (all_cleaned (variable_at s.code.home r) q) d = λ at h. all_cleaned_below (variable_at s.code.home r) q at (g at h) in
          ways_then (walk_all s body (all_cleaned (variable_at s.code.home r) q)) (λ ways. GoesOn (past_loop (all_cleaned (variable_at s.code.home r) q) ways))
          (body_within body (all_cleaned (variable_at s.code.home r) q) head) (λ ways h. (head, none_below, none_below, h.3)))))
      statement_within (While place e body) y b =
          then_ways (walk_expression s e place y) (λ x. then_walk (walk_all s body x) (λ ways. GoesOn (past_loop y ways))) (expression_within e place y b)
          (λ x c. ways_then (walk_all s body x) (λ ways. GoesOn (past_loop y ways)) (body_within body x c) (λ ways h. (b, none_below, none_below, h.3)))
      statement_within (Until place e body) y b =
          ways_then (walk_all s body y) (λ ways. then_walk (walk_expression s e place (united ways.onward ways.continues)) (λ tested. GoesOn (past_last_test ways tested))) (body_within body y b)
          (λ ways h. then_ways (walk_expression s e place (united ways.onward ways.continues)) (λ tested. GoesOn (past_last_test ways tested))
          (expression_within e place (united ways.onward ways.continues) (united_below ways.onward ways.continues h.0 h.2))
          (λ x c. (united_below x ways.leaves c h.1, none_below, none_below, h.3)))

      pub body_within : (t : TypedStatements) (y : DirtySet) → Below y d → WaysWithin d (walk_all s t y)
      body_within Finish y b = way_within y b
      body_within (Next first rest) y b =
          ways_then (walk s first y) (λ x. then_walk (walk_all s rest x.onward) (λ z. GoesOn (ways_past x z))) (statement_within first y b)
          (λ x h. ways_then (walk_all s rest x.onward) (λ z. GoesOn (ways_past x z)) (body_within rest x.onward h.0)
          (λ z k. (k.0, united_below x.leaves z.leaves h.1 k.1, united_below x.continues z.continues h.2 k.2, united_below x.returns z.returns h.3 k.3)))

      pub whens_within : (known : Location → Bool) (t : TypedWhens) (place : Place) (y : DirtySet) → Below y d → WaysWithin d (walk_whens s known t place y)
      whens_within known NoOtherwise place y b = (none_below, none_below, none_below, none_below)
      whens_within known (Otherwise t) place y b = statement_within t y b
      whens_within known (When es t rest) place y b =
          tests_then (walk_tests s known es place y) (λ x. both_ways (walk s t x.holding) (walk_whens s known rest place x.failing)) (tests_within known es place y b)
          (λ x c f. both_within (walk s t x.holding) (walk_whens s known rest place x.failing) (statement_within t x.holding c) (whens_within known rest place x.failing f))
