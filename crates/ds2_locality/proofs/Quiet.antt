-- A walk of what mentions clean locations alone does not fail.
use Rattle.std.proofs.Common.{◌≡◌, ℕ, Bool, true, false, List, [], ◌∷◌, ◌++◌, map, Option, Some, None, refl, if◌then◌else◌}
use Rattle.std.specs.List.{AllByRecursion}
use Rattle.std.proofs.lemmas.Bool.{true≢false}
use Rattle.ds2_base.specs.declared.place.Place.{Place}
use Rattle.ds2_value.specs.declared.hash_function.HashFunction.{HashFunction}
use Rattle.ds2_value.specs.declared.hash_function.HashFunction.TheVariants as hash
use Rattle.ds2_value.specs.declared.truth.Truth.{Truth}
use Rattle.ds2_value.specs.declared.truth.Truth.TheVariants.{Yes, No, Unknown}
use Rattle.ds2_meaning.specs.declared.hashes.DeclaredHash.{DeclaredHash}
use Rattle.ds2_meaning.specs.declared.hashes.DeclaredIterator.{DeclaredIterator}
use Rattle.ds2_meaning.specs.declared.location.Global.TheVariants.{Parameter}
use Rattle.ds2_meaning.specs.declared.location.Reference.{Reference}
use Rattle.ds2_meaning.specs.Evaluation.{callee_home}
use Rattle.ds2_meaning.specs.HashObjects.{hash_named, iterator_named, object_at}
use Rattle.ds2_meaning.specs.Location.{Location}
use Rattle.ds2_meaning.specs.TypedExpression.{TypedExpression, Constant, Variable, Widen, Convert, Prefixed, Chain, Compared, Applied, Called, HashCalled, IteratorCalled, Links, NoLink, Link, TypedExpressions, NoExpression, Then, TypedArguments, NoArgument, ByValue, InOut}
use Rattle.ds2_meaning.specs.TypedStatement.{TypedStatement, Empty, Assign, Invoke, Evaluate, SetParameters, ParameterValue, Construct, Leave, Continue, Return, ReturnValue, Output, Put, If, IfElse, Select, SelectValue, Block, Count, While, Until, TypedStatements, Finish, Next, TypedWhens, NoOtherwise, Otherwise, When, Item, Text, Shown, Labelled}
use Rattle.ds2_locality.specs.Deeds.{MethodAt, CodeScope, global_at, variable_at, variables_at, hash_variables_at, columns_written, Deed, Mention, Change, CallOf, set_deeds, changed_by_hash, hash_deeds, iterator_deeds, expression_deeds, link_deeds, expressions_deeds, argument_deeds, call_deeds, constructor_deeds, parameter_deeds, item_deeds, step_deeds, statement_deeds, body_deeds, when_deeds}
use Rattle.ds2_locality.specs.Walk.{DirtySet, nothing_dirty, no_flag, united, all_cleaned, WalkEnd, FailsAt, GoesOn, then_walk, read_locations, WaysOut, no_way, way_on, ways_past, past_loop, past_last_test, decided, both_ways, by_condition, TestsEnd, past_test, read_by_hash, cleaned_by_hash, walk_hash_call, walk_iterator_call, WalkScope, walk_expression, walk_links, walk_expressions, walk_arguments, walk_call, walk_constructor, walk_values, walk_items, walk_step, walk_tests, walk, walk_all, walk_whens}
use Rattle.ds2_locality.proofs.Frame.{all_front, all_back, Allowed, AreAllowed, Any}
use Rattle.ds2_locality.proofs.Near.{Below, both_clean, all_cleaned_below}

abbrev pub GoesAt : DirtySet → WalkEnd DirtySet → Type 0
GoesAt d (FailsAt at place) = ⊥
GoesAt d (GoesOn x) = Below x d

abbrev pub WaysGo : DirtySet → WalkEnd WaysOut → Type 0
WaysGo d (FailsAt at place) = ⊥
WaysGo d (GoesOn x) = Below x.onward d × Below x.leaves d × Below x.continues d × Below x.returns d

abbrev pub TestsGo : DirtySet → WalkEnd TestsEnd → Type 0
TestsGo d (FailsAt at place) = ⊥
TestsGo d (GoesOn x) = Below x.holding d × Below x.failing d

module _ (d : DirtySet) where
  -- a location is clean
  abbrev pub Clean : Location → Type 0
  Clean at = d at ≡ false

  none_below : Below nothing_dirty d
  none_below at e = refl

  united_below : (a b : DirtySet) → Below a d → Below b d → Below (united a b) d
  united_below a b f g at e = both_clean (a at) (b at) (f at e) (g at e)

  then_within : (o : WalkEnd DirtySet) (go : DirtySet → WalkEnd DirtySet) → GoesAt d o → ((x : DirtySet) → Below x d → GoesAt d (go x)) → GoesAt d (then_walk o go)
  then_within (FailsAt at place) go h k = absurd h
  then_within (GoesOn x) go h k = k x h

  then_ways : (o : WalkEnd DirtySet) (go : DirtySet → WalkEnd WaysOut) → GoesAt d o → ((x : DirtySet) → Below x d → WaysGo d (go x)) → WaysGo d (then_walk o go)
  then_ways (FailsAt at place) go h k = absurd h
  then_ways (GoesOn x) go h k = k x h

  then_tests : (o : WalkEnd DirtySet) (go : DirtySet → WalkEnd TestsEnd) → GoesAt d o → ((x : DirtySet) → Below x d → TestsGo d (go x)) → TestsGo d (then_walk o go)
  then_tests (FailsAt at place) go h k = absurd h
  then_tests (GoesOn x) go h k = k x h

  ways_then : (o : WalkEnd WaysOut) (go : WaysOut → WalkEnd WaysOut) → WaysGo d o
      → ((x : WaysOut) → Below x.onward d × Below x.leaves d × Below x.continues d × Below x.returns d → WaysGo d (go x)) → WaysGo d (then_walk o go)
  ways_then (FailsAt at place) go h k = absurd h
  ways_then (GoesOn x) go h k = k x h

  way_within : (x : DirtySet) → Below x d → WaysGo d (GoesOn (way_on x))
  way_within x b = (b, none_below, none_below, none_below)

  both_within : (o q : WalkEnd WaysOut) → WaysGo d o → WaysGo d q → WaysGo d (both_ways o q)
  both_within (FailsAt at place) q h k = absurd h
  both_within (GoesOn x) (FailsAt at place) h k = absurd k
  both_within (GoesOn x) (GoesOn y) h k =
      (united_below x.onward y.onward h.0 k.0, united_below x.leaves y.leaves h.1 k.1, united_below x.continues y.continues h.2 k.2, united_below x.returns y.returns h.3 k.3)

  condition_within : (t : Truth) (o q : WalkEnd WaysOut) → WaysGo d o → WaysGo d q → WaysGo d (by_condition t o q)
  condition_within Yes o q h k = h
  condition_within No o q h k = k
  condition_within Unknown o q h k = both_within o q h k

  reads_by : (b : Bool) (place : Place) (at : Location) (more : List Location) (y : DirtySet) → b ≡ false → GoesAt d (read_locations place more y)
      → GoesAt d (then_walk (if b then FailsAt at place else GoesOn y) (read_locations place more))
  reads_by true place at more y e h = absurd (true≢false e)
  reads_by false place at more y e h = h

  pub reads_go : (place : Place) (ats : List Location) (y : DirtySet) → AllByRecursion Clean ats → Below y d → GoesAt d (read_locations place ats y)
  reads_go place [] y q b = b
  reads_go place (at ∷ more) y q b = reads_by (y at) place at more y (b at q.0) (reads_go place more y q.1 b)

  module _ (s : WalkScope) (R : MethodAt → Type 0) (calls_go : (m : MethodAt) → R m → (place : Place) (y : DirtySet) → Below y d → GoesAt d (s.calls m place y)) where
    abbrev Fine : List Deed → Type 0
    Fine deeds = AreAllowed Clean Clean Any R deeds

    abbrev front : (xs ys : List Deed) → Fine (xs ++ ys) → Fine xs
    front xs ys h = all_front (Allowed Clean Clean Any R) xs ys h

    abbrev back : (xs ys : List Deed) → Fine (xs ++ ys) → Fine ys
    back xs ys h = all_back (Allowed Clean Clean Any R) xs ys h

    mentioned : (ats : List Location) → Fine (map Mention ats) → AllByRecursion Clean ats
    mentioned [] h = tt
    mentioned (at ∷ ats) h = (h.0, mentioned ats h.1)

    abbrev c : CodeScope
    c = s.code

    read_clean : (f : HashFunction) (h : DeclaredHash) → Clean (object_at c.home h.name) → AllByRecursion Clean (variables_at c.home h.key_variables ++ variables_at c.home h.data_variables)
        → AllByRecursion Clean (read_by_hash c.home f h)
    read_clean hash.Find h e q = (e, all_front Clean (variables_at c.home h.key_variables) (variables_at c.home h.data_variables) q)
    read_clean hash.Check h e q = (e, all_front Clean (variables_at c.home h.key_variables) (variables_at c.home h.data_variables) q)
    read_clean hash.Remove h e q = (e, all_front Clean (variables_at c.home h.key_variables) (variables_at c.home h.data_variables) q)
    read_clean hash.Add h e q = (e, q)
    read_clean hash.Replace h e q = (e, q)
    read_clean hash.NumItems h e q = (e, tt)
    read_clean hash.Clear h e q = tt

    hash_goes : (f : HashFunction) (o : Option DeclaredHash) (place : Place) (y : DirtySet) → Fine (hash_deeds c f o) → Below y d → GoesAt d (walk_hash_call c f o place y)
    hash_goes f None place y q b = b
    hash_goes f (Some h) place y q b =
        then_within (read_locations place (read_by_hash c.home f h) y) (λ x. GoesOn (all_cleaned (cleaned_by_hash c.home c.objects.iterators f h) x))
        (reads_go place (read_by_hash c.home f h) y
        (read_clean f h q.0 (mentioned (hash_variables_at c.home h) (front (map Mention (hash_variables_at c.home h)) (map Change (changed_by_hash c.home c.objects.iterators f h)) q.1))) b)
        (λ x below at e. all_cleaned_below (cleaned_by_hash c.home c.objects.iterators f h) x at (below at e))

    iterator_goes : (o : Option DeclaredIterator) (place : Place) (y : DirtySet) → Fine (iterator_deeds c o) → Below y d → GoesAt d (walk_iterator_call c o place y)
    iterator_goes None place y q b = b
    iterator_goes (Some i) place y q b = reads_go place (object_at c.home i.name ∷ object_at c.home i.hash ∷ []) y (q.0, (q.1.0, tt)) b

    set_clean : (r : Reference) → Fine (set_deeds c.home r) → AllByRecursion Clean (variable_at c.home r)
    set_clean r q = mentioned (variable_at c.home r) (front (map Mention (variable_at c.home r)) (map Change (variable_at c.home r)) q)

    mutual
      pub expression_goes : (e : TypedExpression) (place : Place) (y : DirtySet) → Fine (expression_deeds c e) → Below y d → GoesAt d (walk_expression s e place y)
      expression_goes (Constant v ty) place y q b = b
      expression_goes (Variable r ty) place y q b = reads_go place (variable_at c.home r) y (mentioned (variable_at c.home r) q) b
      expression_goes (Widen e) place y q b = expression_goes e place y q b
      expression_goes (Convert e ty) place y q b = expression_goes e place y q b
      expression_goes (Prefixed o e ty) place y q b = expression_goes e place y q b
      expression_goes (Chain first links) place y q b =
          then_within (walk_expression s first place y) (walk_links s links place) (expression_goes first place y (front (expression_deeds c first) (link_deeds c links) q) b)
          (λ x below. links_go links place x (back (expression_deeds c first) (link_deeds c links) q) below)
      expression_goes (Compared o left right) place y q b =
          then_within (walk_expression s left place y) (walk_expression s right place) (expression_goes left place y (front (expression_deeds c left) (expression_deeds c right) q) b)
          (λ x below. expression_goes right place x (back (expression_deeds c left) (expression_deeds c right) q) below)
      expression_goes (Applied f es ty) place y q b = expressions_go es place y q b
      expression_goes (Called instance m es ty) place y q b =
          let callee : MethodAt = record { home = callee_home c.home instance; number = m } in
          then_within (walk_arguments s es place y) (s.calls callee place) (arguments_go es place y (front (argument_deeds c es) (CallOf callee ∷ []) q) b)
          (λ x below. calls_go callee (back (argument_deeds c es) (CallOf callee ∷ []) q).0 place x below)
      expression_goes (HashCalled name f) place y q b = hash_goes f (hash_named c.objects.hashes name) place y q b
      expression_goes (IteratorCalled name f) place y q b = iterator_goes (iterator_named c.objects.iterators name) place y q b

      links_go : (links : Links) (place : Place) (y : DirtySet) → Fine (link_deeds c links) → Below y d → GoesAt d (walk_links s links place y)
      links_go NoLink place y q b = b
      links_go (Link widens o e ty rest) place y q b =
          then_within (walk_expression s e place y) (walk_links s rest place) (expression_goes e place y (front (expression_deeds c e) (link_deeds c rest) q) b)
          (λ x below. links_go rest place x (back (expression_deeds c e) (link_deeds c rest) q) below)

      expressions_go : (es : TypedExpressions) (place : Place) (y : DirtySet) → Fine (expressions_deeds c es) → Below y d → GoesAt d (walk_expressions s es place y)
      expressions_go NoExpression place y q b = b
      expressions_go (Then e rest) place y q b =
          then_within (walk_expression s e place y) (walk_expressions s rest place) (expression_goes e place y (front (expression_deeds c e) (expressions_deeds c rest) q) b)
          (λ x below. expressions_go rest place x (back (expression_deeds c e) (expressions_deeds c rest) q) below)

      arguments_go : (es : TypedArguments) (place : Place) (y : DirtySet) → Fine (argument_deeds c es) → Below y d → GoesAt d (walk_arguments s es place y)
      arguments_go NoArgument place y q b = b
      arguments_go (ByValue e rest) place y q b =
          then_within (walk_expression s e place y) (walk_arguments s rest place) (expression_goes e place y (front (expression_deeds c e) (argument_deeds c rest) q) b)
          (λ x below. arguments_go rest place x (back (expression_deeds c e) (argument_deeds c rest) q) below)
      arguments_go (InOut r rest) place y q b =
          then_within (read_locations place (variable_at c.home r) y) (walk_arguments s rest place)
          (reads_go place (variable_at c.home r) y (set_clean r (front (set_deeds c.home r) (argument_deeds c rest) q)) b)
          (λ x below. arguments_go rest place x (back (set_deeds c.home r) (argument_deeds c rest) q) below)

    call_goes : (instance : Option (List ℕ)) (m : ℕ) (es : TypedArguments) (place : Place) (y : DirtySet) → Fine (call_deeds c instance m es) → Below y d → GoesAt d (walk_call s instance m es place y)
    call_goes instance m es place y q b =
        let callee : MethodAt = record { home = callee_home c.home instance; number = m } in
        then_within (walk_arguments s es place y) (s.calls callee place) (arguments_go es place y (front (argument_deeds c es) (CallOf callee ∷ []) q) b)
        (λ x below. calls_go callee (back (argument_deeds c es) (CallOf callee ∷ []) q).0 place x below)

    constructor_goes : (instance : List ℕ) (m : Option ℕ) (es : TypedArguments) (place : Place) (y : DirtySet) → Fine (constructor_deeds c instance m es) → Below y d → GoesAt d (walk_constructor s instance m es place y)
    constructor_goes instance None es place y q b = b
    constructor_goes instance (Some m) es place y q b = call_goes (Some instance) m es place y q b

    values_go : (instance : List ℕ) (ps : List ParameterValue) (place : Place) (y : DirtySet) → Fine (parameter_deeds c instance ps) → Below y d → GoesAt d (walk_values s ps place y)
    values_go instance [] place y q b = b
    values_go instance (v ∷ ps) place y q b =
        let rest = Change (global_at (Some instance) (Parameter v.parameter)) ∷ parameter_deeds c instance ps in
        then_within (walk_expression s v.value place y) (walk_values s ps place) (expression_goes v.value place y (front (expression_deeds c v.value) rest q) b)
        (λ x below. values_go instance ps place x (back (expression_deeds c v.value) rest q).1 below)

    items_go : (items : List Item) (place : Place) (y : DirtySet) → Fine (item_deeds c items) → Below y d → GoesAt d (walk_items s items place y)
    items_go [] place y q b = b
    items_go (Text t ∷ items) place y q b = items_go items place y q b
    items_go (Shown e ∷ items) place y q b =
        then_within (walk_expression s e place y) (walk_items s items place) (expression_goes e place y (front (expression_deeds c e) (item_deeds c items) q) b)
        (λ x below. items_go items place x (back (expression_deeds c e) (item_deeds c items) q) below)
    items_go (Labelled name e ∷ items) place y q b =
        then_within (walk_expression s e place y) (walk_items s items place) (expression_goes e place y (front (expression_deeds c e) (item_deeds c items) q) b)
        (λ x below. items_go items place x (back (expression_deeds c e) (item_deeds c items) q) below)

    step_goes : (step : Option TypedExpression) (place : Place) (y : DirtySet) → Fine (step_deeds c step) → Below y d → GoesAt d (walk_step s step place y)
    step_goes None place y q b = b
    step_goes (Some e) place y q b = expression_goes e place y q b

    holding_more : (x : DirtySet) → Below x d → (o : WalkEnd TestsEnd) → TestsGo d o → TestsGo d (then_walk o (λ y. GoesOn (record { holding = united x y.holding; failing = y.failing })))
    holding_more x b (FailsAt at place) h = absurd h
    holding_more x b (GoesOn y) h = (united_below x y.holding b h.0, h.1)

    test_goes : (t : Truth) (x : DirtySet) (go : DirtySet → WalkEnd TestsEnd) → Below x d → TestsGo d (go x) → TestsGo d (past_test t x go)
    test_goes Yes x go b h = (b, none_below)
    test_goes No x go b h = h
    test_goes Unknown x go b h = holding_more x b (go x) h

    tests_go : (known : Location → Bool) (es : TypedExpressions) (place : Place) (y : DirtySet) → Fine (expressions_deeds c es) → Below y d → TestsGo d (walk_tests s known es place y)
    tests_go known NoExpression place y q b = (none_below, b)
    tests_go known (Then e rest) place y q b =
        then_tests (walk_expression s e place y) (λ x. past_test (decided known c.home e) x (walk_tests s known rest place))
        (expression_goes e place y (front (expression_deeds c e) (expressions_deeds c rest) q) b)
        (λ x below. test_goes (decided known c.home e) x (walk_tests s known rest place) below (tests_go known rest place x (back (expression_deeds c e) (expressions_deeds c rest) q) below))

    tests_then : (o : WalkEnd TestsEnd) (go : TestsEnd → WalkEnd WaysOut) → TestsGo d o → ((x : TestsEnd) → Below x.holding d → Below x.failing d → WaysGo d (go x)) → WaysGo d (then_walk o go)
    tests_then (FailsAt at place) go h k = absurd h
    tests_then (GoesOn x) go h k = k x h.0 h.1

    mutual
      pub statement_goes : (t : TypedStatement) (y : DirtySet) → Fine (statement_deeds c t) → Below y d → WaysGo d (walk s t y)
      statement_goes (Empty place) y q b = way_within y b
      statement_goes (Assign place r e) y q b =
          then_ways (walk_expression s e place y) (λ x. GoesOn (way_on (all_cleaned (variable_at c.home r) x))) (expression_goes e place y (front (expression_deeds c e) (set_deeds c.home r) q) b)
          (λ x below. way_within (all_cleaned (variable_at c.home r) x) (λ at f. all_cleaned_below (variable_at c.home r) x at (below at f)))
      statement_goes (Invoke place instance m es) y q b = then_ways (walk_call s instance m es place y) (λ x. GoesOn (way_on x)) (call_goes instance m es place y q b) (λ x below. way_within x below)
      statement_goes (Evaluate place e) y q b = then_ways (walk_expression s e place y) (λ x. GoesOn (way_on x)) (expression_goes e place y q b) (λ x below. way_within x below)
      statement_goes (SetParameters place instance ps) y q b = then_ways (walk_values s ps place y) (λ x. GoesOn (way_on x)) (values_go instance ps place y q b) (λ x below. way_within x below)
      statement_goes (Construct place instance m es) y q b =
          then_ways (walk_constructor s instance m es place y) (λ x. GoesOn (way_on x)) (constructor_goes instance m es place y q b) (λ x below. way_within x below)
      statement_goes (Leave place) y q b = (none_below, b, none_below, none_below)
      statement_goes (Continue place) y q b = (none_below, none_below, b, none_below)
      statement_goes (Return place) y q b = (none_below, none_below, none_below, b)
      statement_goes (ReturnValue place e) y q b =
          then_ways (walk_expression s e place y) (λ x. GoesOn (record no_way { returns = x })) (expression_goes e place y q b) (λ x below. (none_below, none_below, none_below, below))
      statement_goes (Output place ns) y q b =
          then_ways (read_locations place (columns_written c ns) y) (λ x. GoesOn (way_on x)) (reads_go place (columns_written c ns) y (mentioned (columns_written c ns) q.1) b) (λ x below. way_within x below)
      statement_goes (Put place items) y q b = then_ways (walk_items s items place y) (λ x. GoesOn (way_on x)) (items_go items place y q.1 b) (λ x below. way_within x below)
      statement_goes (If place e on) y q b =
          then_ways (walk_expression s e place y) (λ x. by_condition (decided s.known c.home e) (walk s on x) (GoesOn (way_on x))) (expression_goes e place y (front (expression_deeds c e) (statement_deeds c on) q) b)
          (λ x below. condition_within (decided s.known c.home e) (walk s on x) (GoesOn (way_on x)) (statement_goes on x (back (expression_deeds c e) (statement_deeds c on) q) below) (way_within x below))
      statement_goes (IfElse place e on off) y q b =
          let two = front (expression_deeds c e ++ statement_deeds c on) (statement_deeds c off) q in
          then_ways (walk_expression s e place y) (λ x. by_condition (decided s.known c.home e) (walk s on x) (walk s off x)) (expression_goes e place y (front (expression_deeds c e) (statement_deeds c on) two) b)
          (λ x below. condition_within (decided s.known c.home e) (walk s on x) (walk s off x) (statement_goes on x (back (expression_deeds c e) (statement_deeds c on) two) below)
          (statement_goes off x (back (expression_deeds c e ++ statement_deeds c on) (statement_deeds c off) q) below))
      statement_goes (Select place whens) y q b = whens_go s.known whens place y q b
      statement_goes (SelectValue place e whens) y q b =
          then_ways (walk_expression s e place y) (walk_whens s no_flag whens place) (expression_goes e place y (front (expression_deeds c e) (when_deeds c whens) q) b)
          (λ x below. whens_go no_flag whens place x (back (expression_deeds c e) (when_deeds c whens) q) below)
      statement_goes (Block place body) y q b = body_goes body y q b
      statement_goes (Count place r start end step body) y q b =
          let four = front (expression_deeds c start ++ expression_deeds c end ++ step_deeds c step ++ set_deeds c.home r) (body_deeds c body) q in
          let three = front (expression_deeds c start ++ expression_deeds c end ++ step_deeds c step) (set_deeds c.home r) four in
          let two = front (expression_deeds c start ++ expression_deeds c end) (step_deeds c step) three in
          let last = back (expression_deeds c start ++ expression_deeds c end ++ step_deeds c step ++ set_deeds c.home r) (body_deeds c body) q in
          let loop : DirtySet → WalkEnd WaysOut = λ (z : DirtySet). then_walk (walk_all s body (all_cleaned (variable_at c.home r) z)) (λ ways. GoesOn (past_loop (all_cleaned (variable_at c.home r) z) ways)) in
          then_ways (walk_expression s start place y) (λ x. then_walk (walk_expression s end place x) (λ z. then_walk (walk_step s step place z) loop))
          (expression_goes start place y (front (expression_deeds c start) (expression_deeds c end) two) b)
          (λ x below. then_ways (walk_expression s end place x) (λ z. then_walk (walk_step s step place z) loop) (expression_goes end place x (back (expression_deeds c start) (expression_deeds c end) two) below)
          (λ z below. then_ways (walk_step s step place z) loop (step_goes step place z (back (expression_deeds c start ++ expression_deeds c end) (step_deeds c step) three) below)
          (λ z below. let head : Below (all_cleaned (variable_at c.home r) z) d = λ at h. all_cleaned_below (variable_at c.home r) z at (below at h) in
          ways_then (walk_all s body (all_cleaned (variable_at c.home r) z)) (λ ways. GoesOn (past_loop (all_cleaned (variable_at c.home r) z) ways))
          (body_goes body (all_cleaned (variable_at c.home r) z) last head) (λ ways h. (head, none_below, none_below, h.3)))))
      statement_goes (While place e body) y q b =
          then_ways (walk_expression s e place y) (λ x. then_walk (walk_all s body x) (λ ways. GoesOn (past_loop y ways))) (expression_goes e place y (front (expression_deeds c e) (body_deeds c body) q) b)
          (λ x below. ways_then (walk_all s body x) (λ ways. GoesOn (past_loop y ways)) (body_goes body x (back (expression_deeds c e) (body_deeds c body) q) below) (λ ways h. (b, none_below, none_below, h.3)))
      statement_goes (Until place e body) y q b =
          ways_then (walk_all s body y) (λ ways. then_walk (walk_expression s e place (united ways.onward ways.continues)) (λ tested. GoesOn (past_last_test ways tested)))
          (body_goes body y (back (expression_deeds c e) (body_deeds c body) q) b)
          (λ ways h. then_ways (walk_expression s e place (united ways.onward ways.continues)) (λ tested. GoesOn (past_last_test ways tested))
          (expression_goes e place (united ways.onward ways.continues) (front (expression_deeds c e) (body_deeds c body) q) (united_below ways.onward ways.continues h.0 h.2))
          (λ x below. (united_below x ways.leaves below h.1, none_below, none_below, h.3)))

      pub body_goes : (t : TypedStatements) (y : DirtySet) → Fine (body_deeds c t) → Below y d → WaysGo d (walk_all s t y)
      body_goes Finish y q b = way_within y b
      body_goes (Next first rest) y q b =
          ways_then (walk s first y) (λ x. then_walk (walk_all s rest x.onward) (λ z. GoesOn (ways_past x z))) (statement_goes first y (front (statement_deeds c first) (body_deeds c rest) q) b)
          (λ x h. ways_then (walk_all s rest x.onward) (λ z. GoesOn (ways_past x z)) (body_goes rest x.onward (back (statement_deeds c first) (body_deeds c rest) q) h.0)
          (λ z k. (k.0, united_below x.leaves z.leaves h.1 k.1, united_below x.continues z.continues h.2 k.2, united_below x.returns z.returns h.3 k.3)))

      whens_go : (known : Location → Bool) (t : TypedWhens) (place : Place) (y : DirtySet) → Fine (when_deeds c t) → Below y d → WaysGo d (walk_whens s known t place y)
      whens_go known NoOtherwise place y q b = (none_below, none_below, none_below, none_below)
      whens_go known (Otherwise t) place y q b = statement_goes t y q b
      whens_go known (When es t rest) place y q b =
          let two = front (expressions_deeds c es ++ statement_deeds c t) (when_deeds c rest) q in
          tests_then (walk_tests s known es place y) (λ x. both_ways (walk s t x.holding) (walk_whens s known rest place x.failing)) (tests_go known es place y (front (expressions_deeds c es) (statement_deeds c t) two) b)
          (λ x below further. both_within (walk s t x.holding) (walk_whens s known rest place x.failing) (statement_goes t x.holding (back (expressions_deeds c es) (statement_deeds c t) two) below)
          (whens_go known rest place x.failing (back (expressions_deeds c es ++ statement_deeds c t) (when_deeds c rest) q) further))
