-- Two runs of one statement from states that agree outside of a dirty set from which its walk does not fail: statements.
use Rattle.std.proofs.Common.{◌≡◌, ℕ, zero, suc, Bool, true, false, ◌||◌, List, [], ◌∷◌, ◌++◌, map, flat_map, slice_get, Option, Some, None, refl, sym, ap, ◌∙◌, subst, if◌then◌else◌}
use Rattle.std.specs.List.{AllByRecursion, join_with_byte}
use Rattle.std.specs.Prelude.{pos}
use Rattle.ds2_base.specs.declared.place.Place.{Place}
use Rattle.ds2_value.specs.Operations.{is_true, line_text}
use Rattle.ds2_value.specs.Progress.{Progress, with_written, with_line, with_failure}
use Rattle.ds2_value.specs.Value.{sum_of, compared_of, and_of, or_of, not_of, is_yes}
use Rattle.ds2_value.specs.declared.comparison.Comparison.TheVariants.{Equal, Less, LessOrEqual, GreaterOrEqual}
use Rattle.ds2_value.specs.declared.fault.Fault.TheVariants.{NoWhen}
use Rattle.ds2_value.specs.declared.truth.Truth.{Truth}
use Rattle.ds2_value.specs.declared.truth.Truth.TheVariants.{Yes, No, Unknown}
use Rattle.ds2_value.specs.declared.value.Value.{Value}
use Rattle.ds2_value.specs.declared.value.Value.TheVariants.{Null, Int}
use Rattle.ds2_meaning.specs.declared.expressions.Operation.{Operation}
use Rattle.ds2_meaning.specs.declared.expressions.Operation.TheVariants as operation
use Rattle.ds2_meaning.specs.declared.expressions.Prefix.TheVariants as prefix
use Rattle.ds2_meaning.specs.declared.location.Global.TheVariants.{Named, Parameter}
use Rattle.ds2_meaning.specs.declared.location.Reference.{Reference}
use Rattle.ds2_meaning.specs.declared.location.Reference.TheVariants.{At, Local}
use Rattle.ds2_meaning.specs.Evaluation.{Surroundings, Calls, evaluate, call}
use Rattle.ds2_meaning.specs.Execution.{labelled, dropped, step_or_one, counts_on, projected_row, write_one, write_each, any_holds, any_equals, with_texts, with_step_value, rounds_counted, rounds_while, rounds_until, constructed, with_parameters_set, exec, exec_all, select, select_value}
use Rattle.ds2_meaning.specs.Location.{Home, Location, Holds}
use Rattle.ds2_meaning.specs.ProgramTree.{UnitTree, objects_of}
use Rattle.ds2_meaning.specs.RunState.{RunState, ExpressionEnd, attempt, StatementOutcome, Proceeds, Leaves, Continues, Returns, then_value, then_round, step_fails, begin_step, after_test, noting_failure, variable_value, store, keep_at, put_line}
use Rattle.ds2_meaning.specs.TypedExpression.{TypedExpression, Constant, Variable, Widen, Convert, Prefixed, Chain, Compared, Applied, Called, HashCalled, IteratorCalled, Links, NoLink, Link, TypedExpressions, NoExpression, Then, TypedArguments}
use Rattle.ds2_meaning.specs.TypedStatement.{TypedStatement, Empty, Assign, Invoke, Evaluate, SetParameters, ParameterValue, Construct, Leave, Continue, Return, ReturnValue, Output, Put, If, IfElse, Select, SelectValue, Block, Count, While, Until, TypedStatements, Finish, Next, TypedWhens, NoOtherwise, Otherwise, When, Item, Text, Shown, Labelled}
use Rattle.ds2_locality.specs.Deeds.{MethodAt, CodeScope, global_at, variable_at, columns_at, columns_written, Deed, Change, set_deeds, expression_deeds, expressions_deeds, call_deeds, constructor_deeds, parameter_deeds, item_deeds, step_deeds, statement_deeds, body_deeds, when_deeds}
use Rattle.ds2_locality.specs.Walk.{DirtySet, nothing_dirty, no_flag, united, all_cleaned, WalkEnd, FailsAt, GoesOn, then_walk, WaysOut, no_way, way_on, past_loop, past_last_test, decided_by, decided_flag, decided, decided_links, both_ways, by_condition, TestsEnd, past_test, CallWalks, WalkScope, walk_expression, walk_call, walk_constructor, walk_values, walk_items, walk_step, walk_tests, walk, walk_all, walk_whens}
use Rattle.ds2_locality.proofs.Frame.{all_front, all_back}
use Rattle.ds2_locality.proofs.Near.{Fits, Below, left_clean, right_clean, location_self, Free, IsValueAt, Near, near_below, near_progress, near_kept, near_store, near_stored, near_value, SameExpression, ExpressionAt, CallAt, SameStatement, proceed, leave, continue', return', fault, StatementAt, reads_then, attempt_same, dropped_same, value_some, value_same, begun_same, step_fails_same, test_any, both_left, both_right, yes_same, no_same, condition_same, then_same, round_some}
use Rattle.ds2_locality.proofs.Within.{WithinAt, WaysWithin, expression_within, body_within}
use Rattle.ds2_locality.proofs.SameObjects.{ObjectsStand}
use Rattle.ds2_locality.proofs.Same.{Fine, front, back, mentioned, set_free, set_is, expression_same, call_same}

-- ---- where no flag is known nothing is decided

undecided_by : (o : Operation) (a b : Truth) → a ≡ Unknown → b ≡ Unknown → decided_by o a b ≡ Unknown
undecided_by operation.And a b e f = ap (λ z. and_of z b) e ∙ ap (and_of Unknown) f
undecided_by operation.Or a b e f = ap (λ z. or_of z b) e ∙ ap (or_of Unknown) f
undecided_by operation.IntegerAdd a b e f = refl
undecided_by operation.IntegerSubtract a b e f = refl
undecided_by operation.IntegerMultiply a b e f = refl
undecided_by operation.DecimalAdd a b e f = refl
undecided_by operation.DecimalSubtract a b e f = refl
undecided_by operation.DecimalMultiply a b e f = refl
undecided_by operation.DecimalDivide a b e f = refl
undecided_by operation.Concatenate a b e f = refl

widened_undecided : (b : Bool) (a : Truth) → a ≡ Unknown → (if b then Unknown else a) ≡ Unknown
widened_undecided true a e = refl
widened_undecided false a e = e

flag_undecided : (home : Home) (r : Reference) → decided_flag no_flag home r ≡ Unknown
flag_undecided home (At g) = refl
flag_undecided home (Local name) = refl

mutual
  undecided : (home : Home) (e : TypedExpression) → decided no_flag home e ≡ Unknown
  undecided home (Constant v ty) = refl
  undecided home (Variable r ty) = flag_undecided home r
  undecided home (Widen e) = refl
  undecided home (Convert e ty) = refl
  undecided home (Prefixed prefix.IntegerNegate e ty) = refl
  undecided home (Prefixed prefix.DecimalNegate e ty) = refl
  undecided home (Prefixed prefix.Plus e ty) = refl
  undecided home (Prefixed prefix.Not e ty) = ap not_of (undecided home e)
  undecided home (Chain first links) = undecided_links home (decided no_flag home first) links (undecided home first)
  undecided home (Compared o a b) = refl
  undecided home (Applied f es ty) = refl
  undecided home (Called instance m es ty) = refl
  undecided home (HashCalled name f) = refl
  undecided home (IteratorCalled name f) = refl

  undecided_links : (home : Home) (t : Truth) (links : Links) → t ≡ Unknown → decided_links no_flag home t links ≡ Unknown
  undecided_links home t NoLink e = e
  undecided_links home t (Link widens o operand ty rest) e =
      undecided_links home (decided_by o (if widens then Unknown else t) (decided no_flag home operand)) rest
      (undecided_by o (if widens then Unknown else t) (decided no_flag home operand) (widened_undecided widens t e) (undecided home operand))

module _ (p : UnitTree) (known : Location → Bool) where
  -- ---- rows and lines

  rows_same : (home : Home) (names : List (List ℕ)) (d : DirtySet) (w u : RunState) → AllByRecursion (IsValueAt p) (map (λ name. global_at home (Named name)) names)
      → AllByRecursion (λ at. d at ≡ false) (map (λ name. global_at home (Named name)) names) → Near p known d w u → projected_row home names w ≡ projected_row home names u
  rows_same home [] d w u is clean n = refl
  rows_same home (name ∷ names) d w u is clean n =
      ap (λ v. v ∷ projected_row home names w) (near_value p known home (At (Named name)) d w u (is.0, tt) (clean.0, tt) n)
      ∙ ap (λ vs. variable_value home (At (Named name)) u ∷ vs) (rows_same home names d w u is.1 clean.1 n)

  near_one : (home : Home) (o : Option (List (List ℕ))) (m : ℕ) (d : DirtySet) (w u : RunState) → AllByRecursion (IsValueAt p) (columns_at home o) → AllByRecursion (λ at. d at ≡ false) (columns_at home o)
      → Near p known d w u → Near p known d (write_one home o m w) (write_one home o m u)
  near_one home None m d w u is clean n = n
  near_one home (Some names) m d w u is clean n =
      near_progress p known d w u (with_written m (projected_row home names w) w.progress) (with_written m (projected_row home names u) u.progress) n
      (ap (λ row. with_written m row w.progress) (rows_same home names d w u is clean n) ∙ ap (with_written m (projected_row home names u)) n.progress)

  pub near_written : (home : Home) (outputs : List (List (List ℕ))) (ns : List ℕ) (d : DirtySet) (w u : RunState)
      → AllByRecursion (IsValueAt p) (flat_map (λ m. columns_at home (slice_get outputs m)) ns) → AllByRecursion (λ at. d at ≡ false) (flat_map (λ m. columns_at home (slice_get outputs m)) ns)
      → Near p known d w u → Near p known d (write_each home outputs ns w) (write_each home outputs ns u)
  near_written home outputs [] d w u is clean n = n
  near_written home outputs (m ∷ ns) d w u is clean n =
      let here = columns_at home (slice_get outputs m) in
      let rest = flat_map (λ m. columns_at home (slice_get outputs m)) ns in
      near_written home outputs ns d (write_one home (slice_get outputs m) m w) (write_one home (slice_get outputs m) m u)
      (all_back (IsValueAt p) here rest is) (all_back (λ at. d at ≡ false) here rest clean)
      (near_one home (slice_get outputs m) m d w u (all_front (IsValueAt p) here rest is) (all_front (λ at. d at ≡ false) here rest clean) n)

  -- ---- walks one in the other

  value_nested : (o : WalkEnd DirtySet) (t : Truth) (a b : ExpressionEnd) (go : DirtySet → WalkEnd DirtySet) (further : DirtySet → WalkEnd WaysOut) (f g : Value → RunState → StatementOutcome)
      → ExpressionAt p known o t a b
      → ((x : DirtySet) (v : Value) (w u : RunState) → Near p known x w u → Fits t v → StatementAt p known (then_walk (go x) further) (f v w) (g v u))
      → StatementAt p known (then_walk (then_walk o go) further) (then_value a f) (then_value b g)
  value_nested (FailsAt at place) t a b go further f g h k = tt
  value_nested (GoesOn x) t a b go further f g h k = value_some p known x t a b (then_walk (go x) further) f g h (k x)

  -- the tests of a counted loop
  counts_same : (i end : Value) (step : Option Value) (d : DirtySet) (w u : RunState) (q : WalkEnd WaysOut) (f g h k : RunState → StatementOutcome) → Near p known d w u
      → ((w u : RunState) → Near p known d w u → StatementAt p known q (f w) (h u)) → ((w u : RunState) → Near p known d w u → StatementAt p known q (g w) (k u))
      → StatementAt p known q (counts_on i end step w f g) (counts_on i end step u h k)
  counts_same i end None d w u q f g h k n on off = test_any p known (is_true (compared_of LessOrEqual i end)) d w u q f g h k n on off
  counts_same i end (Some c) d w u q f g h k n on off =
      let least = is_true (compared_of LessOrEqual i end) in
      let below = is_true (compared_of Less c (Int (pos 0))) in
      let most = is_true (compared_of GreaterOrEqual i end) in
      test_any p known (is_true (compared_of GreaterOrEqual c (Int (pos 0)))) d w u q
      (λ x. after_test least x f g) (λ x. after_test below x (λ y. after_test most y f g) g)
      (λ x. after_test least x h k) (λ x. after_test below x (λ y. after_test most y h k) k) n
      (λ w u m. test_any p known least d w u q f g h k m on off)
      (λ w u m. test_any p known below d w u q (λ y. after_test most y f g) g (λ y. after_test most y h k) k m
      (λ w u o. test_any p known most d w u q f g h k o on off) off)

-- ---- statements

module _ (p : UnitTree) (known : Location → Bool) (stand : ObjectsStand p known) (R : MethodAt → Type 0) (home : Home) (outputs : List (List (List ℕ))) (calls : Calls) (walks : CallWalks)
    (calls_same : (m : MethodAt) → R m → (place : Place) (vs : List Value) (d : DirtySet) (w u : RunState) → Near p known d w u
    → CallAt p known (walks m place d) (calls m.home m.number vs w) (calls m.home m.number vs u))
    (calls_within : (d : DirtySet) (m : MethodAt) (place : Place) (y : DirtySet) → Below y d → WithinAt d (walks m place y)) where
  abbrev c : CodeScope
  c = record { home = home; objects = objects_of p home; outputs = outputs }

  abbrev s : Surroundings
  s = record { calls = calls; objects = objects_of p home; outputs = outputs; home = home }

  abbrev k : WalkScope
  k = record { code = c; calls = walks; known = known }

  abbrev All : List Deed → Type 0
  All deeds = Fine p known R deeds

  abbrev Agree : DirtySet → RunState → RunState → Type 0
  Agree d w u = Near p known d w u

  abbrev Same : WalkEnd WaysOut → StatementOutcome → StatementOutcome → Type 0
  Same o a b = StatementAt p known o a b

  value : (e : TypedExpression) (place : Place) (d : DirtySet) (w u : RunState) → All (expression_deeds c e) → Agree d w u
      → ExpressionAt p known (walk_expression k e place d) (decided known home e) (evaluate s e w) (evaluate s e u)
  value e place d w u q n = expression_same p known stand R home outputs calls walks (λ m r place vs d w u h. calls_same m r place vs d w u h) e place d w u q n

  called : (instance : Option (List ℕ)) (m : ℕ) (es : TypedArguments) (place : Place) (d : DirtySet) (w u : RunState) → All (call_deeds c instance m es) → Agree d w u
      → CallAt p known (walk_call k instance m es place d) (call s instance m es w) (call s instance m es u)
  called instance m es place d w u q n = call_same p known stand R home outputs calls walks (λ m r place vs d w u h. calls_same m r place vs d w u h) instance m es place d w u q n

  constructed_same : (instance : List ℕ) (m : Option ℕ) (es : TypedArguments) (place : Place) (d : DirtySet) (w u : RunState) → All (constructor_deeds c instance m es) → Agree d w u
      → Same (then_walk (walk_constructor k instance m es place d) (λ x. GoesOn (way_on x))) (constructed s instance m es w) (constructed s instance m es u)
  constructed_same instance None es place d w u q n = proceed w u n
  constructed_same instance (Some m) es place d w u q n =
      dropped_same p known (walk_call k (Some instance) m es place d) (call s (Some instance) m es w) (call s (Some instance) m es u) (called (Some instance) m es place d w u q n)

  parameters_same : (instance : List ℕ) (ps : List ParameterValue) (place : Place) (d : DirtySet) (w u : RunState) → All (parameter_deeds c instance ps) → Agree d w u
      → Same (then_walk (walk_values k ps place d) (λ x. GoesOn (way_on x))) (with_parameters_set s instance ps w) (with_parameters_set s instance ps u)
  parameters_same instance [] place d w u q n = proceed w u n
  parameters_same instance (y ∷ ps) place d w u q n =
      let at : Location = record { home = Some instance; global = Parameter y.parameter } in
      let rest = back p known R (expression_deeds c y.value) (Change (global_at (Some instance) (Parameter y.parameter)) ∷ parameter_deeds c instance ps) q in
      value_nested p known (walk_expression k y.value place d) (decided known home y.value) (evaluate s y.value w) (evaluate s y.value u) (walk_values k ps place) (λ x. GoesOn (way_on x))
      (λ v x. with_parameters_set s instance ps (keep_at at (Holds v) x)) (λ v x. with_parameters_set s instance ps (keep_at at (Holds v) x))
      (value y.value place d w u (front p known R (expression_deeds c y.value) (Change (global_at (Some instance) (Parameter y.parameter)) ∷ parameter_deeds c instance ps) q) n)
      (λ x v w u m f. parameters_same instance ps place x (keep_at at (Holds v) w) (keep_at at (Holds v) u) rest.1 (near_kept p known at (Holds v) (Holds v) x w u rest.0 (λ clean. refl) m))

  texts_same : (items : List Item) (place : Place) (d : DirtySet) (w u : RunState) (go : List (List ℕ) → RunState → StatementOutcome) → All (item_deeds c items) → Agree d w u
      → ((ts : List (List ℕ)) (x : DirtySet) (w u : RunState) → Agree x w u → SameStatement p known (way_on x) (go ts w) (go ts u))
      → Same (then_walk (walk_items k items place d) (λ x. GoesOn (way_on x))) (with_texts s items w go) (with_texts s items u go)
  texts_same [] place d w u go q n f = f [] d w u n
  texts_same (Text t ∷ items) place d w u go q n f = texts_same items place d w u (λ ts. go (t ∷ ts)) q n (λ ts x w u m. f (t ∷ ts) x w u m)
  texts_same (Shown e ∷ items) place d w u go q n f =
      value_nested p known (walk_expression k e place d) (decided known home e) (evaluate s e w) (evaluate s e u) (walk_items k items place) (λ x. GoesOn (way_on x))
      (λ v x. with_texts s items x (λ ts. go (line_text v ∷ ts))) (λ v x. with_texts s items x (λ ts. go (line_text v ∷ ts)))
      (value e place d w u (front p known R (expression_deeds c e) (item_deeds c items) q) n)
      (λ x v w u m g. texts_same items place x w u (λ ts. go (line_text v ∷ ts)) (back p known R (expression_deeds c e) (item_deeds c items) q) m (λ ts y w u o. f (line_text v ∷ ts) y w u o))
  texts_same (Labelled name e ∷ items) place d w u go q n f =
      value_nested p known (walk_expression k e place d) (decided known home e) (evaluate s e w) (evaluate s e u) (walk_items k items place) (λ x. GoesOn (way_on x))
      (λ v x. with_texts s items x (λ ts. go (labelled name v ∷ ts))) (λ v x. with_texts s items x (λ ts. go (labelled name v ∷ ts)))
      (value e place d w u (front p known R (expression_deeds c e) (item_deeds c items) q) n)
      (λ x v w u m g. texts_same items place x w u (λ ts. go (labelled name v ∷ ts)) (back p known R (expression_deeds c e) (item_deeds c items) q) m (λ ts y w u o. f (labelled name v ∷ ts) y w u o))

  step_same : (step : Option TypedExpression) (place : Place) (d : DirtySet) (w u : RunState) (further : DirtySet → WalkEnd WaysOut) (go : Option Value → RunState → StatementOutcome) → All (step_deeds c step) → Agree d w u
      → ((y : Option Value) (x : DirtySet) (w u : RunState) → Agree x w u → Same (further x) (go y w) (go y u))
      → Same (then_walk (walk_step k step place d) further) (with_step_value s step w go) (with_step_value s step u go)
  step_same None place d w u further go q n f = f None d w u n
  step_same (Some e) place d w u further go q n f =
      value_same p known (walk_expression k e place d) (decided known home e) (evaluate s e w) (evaluate s e u) further (λ v x. go (Some v) x) (λ v x. go (Some v) x) (value e place d w u q n)
      (λ x v w u m g. f (Some v) x w u m)

  -- ---- the tests of a `when`

  abbrev TestsAt : (RunState → (RunState → StatementOutcome) → (RunState → StatementOutcome) → StatementOutcome) → (RunState → StatementOutcome) → (RunState → StatementOutcome) → RunState → RunState → WalkEnd TestsEnd → Type 0
  TestsAt any on off w u (FailsAt at place) = Unit {0}
  TestsAt any on off w u (GoesOn x) = (q : WalkEnd WaysOut) → ((w u : RunState) → Agree x.holding w u → Same q (on w) (on u)) → ((w u : RunState) → Agree x.failing w u → Same q (off w) (off u))
      → Same q (any w on off) (any u on off)

  -- a first test, and then those that follow
  module _ (on off : RunState → StatementOutcome) (rest : RunState → (RunState → StatementOutcome) → (RunState → StatementOutcome) → StatementOutcome) (holds : Value → Bool)
      (any : RunState → (RunState → StatementOutcome) → (RunState → StatementOutcome) → StatementOutcome) where
    abbrev first : Value → RunState → StatementOutcome
    first v x = after_test (holds v) x on (λ y. rest y on off)

    no_by : (x : DirtySet) (t : Truth) (a b : ExpressionEnd) (w u : RunState) (o : WalkEnd TestsEnd) → SameExpression p known x t a b → ((v : Value) → Fits t v → holds v ≡ false)
        → any w on off ≡ then_value a first → any u on off ≡ then_value b first → ((w u : RunState) → Agree x w u → TestsAt rest on off w u o) → TestsAt any on off w u o
    no_by x t a b w u (FailsAt at place) h fails e f later = tt
    no_by x t a b w u (GoesOn y) h fails e f later =
        λ q g i. subst (λ z. Same q z (any u on off)) (sym e) (subst (λ z. Same q (then_value a first) z) (sym f)
        (value_some p known x t a b q first first h (λ v w u m fit. no_same p known (holds v) x w u q on (λ z. rest z on off) on (λ z. rest z on off) (fails v fit) m (λ w u o. later w u o q g i))))

    either_by : (x : DirtySet) (t : Truth) (a b : ExpressionEnd) (w u : RunState) (o : WalkEnd TestsEnd) → SameExpression p known x t a b
        → any w on off ≡ then_value a first → any u on off ≡ then_value b first → ((w u : RunState) → Agree x w u → TestsAt rest on off w u o)
        → TestsAt any on off w u (then_walk o (λ y. GoesOn (record { holding = united x y.holding; failing = y.failing })))
    either_by x t a b w u (FailsAt at place) h e f later = tt
    either_by x t a b w u (GoesOn y) h e f later =
        λ q g i. subst (λ z. Same q z (any u on off)) (sym e) (subst (λ z. Same q (then_value a first) z) (sym f)
        (value_some p known x t a b q first first h (λ v w u m fit. test_any p known (holds v) x w u q on (λ z. rest z on off) on (λ z. rest z on off) m
        (λ w u o. g w u (near_below p known x (united x y.holding) w u (λ at clean. left_clean (x at) (y.holding at) clean) o))
        (λ w u o. later w u o q (λ w u r. g w u (near_below p known y.holding (united x y.holding) w u (λ at clean. right_clean (x at) (y.holding at) clean) r)) i))))

    yes_by : (x : DirtySet) (t : Truth) (a b : ExpressionEnd) (w u : RunState) → SameExpression p known x t a b → ((v : Value) → Fits t v → holds v ≡ true)
        → any w on off ≡ then_value a first → any u on off ≡ then_value b first → TestsAt any on off w u (GoesOn (record { holding = x; failing = nothing_dirty }))
    yes_by x t a b w u h holds_so e f =
        λ q g i. subst (λ z. Same q z (any u on off)) (sym e) (subst (λ z. Same q (then_value a first) z) (sym f)
        (value_some p known x t a b q first first h (λ v w u m fit. yes_same p known (holds v) x w u q on (λ z. rest z on off) on (λ z. rest z on off) (holds_so v fit) m (λ w u o. g w u o))))

  -- the tests of a `when`: conditions
  holds_same : (es : TypedExpressions) (place : Place) (d : DirtySet) (w u : RunState) (on off : RunState → StatementOutcome) → All (expressions_deeds c es) → Agree d w u
      → TestsAt (any_holds s es) on off w u (walk_tests k known es place d)
  holds_same NoExpression place d w u on off q n = λ o f g. g w u n
  holds_same (Then e rest) place d w u on off q n =
      by_walk (walk_expression k e place d) (value e place d w u (front p known R (expression_deeds c e) (expressions_deeds c rest) q) n)
      (λ x w u m. holds_same rest place x w u on off (back p known R (expression_deeds c e) (expressions_deeds c rest) q) m)
    where
      by_truth : (t : Truth) (x : DirtySet) → SameExpression p known x t (evaluate s e w) (evaluate s e u)
          → ((w u : RunState) → Agree x w u → TestsAt (any_holds s rest) on off w u (walk_tests k known rest place x))
          → TestsAt (any_holds s (Then e rest)) on off w u (past_test t x (walk_tests k known rest place))
      by_truth Yes x h later =
          yes_by on off (any_holds s rest) is_true (any_holds s (Then e rest)) x Yes (evaluate s e w) (evaluate s e u) w u h (λ v fit. ap is_yes fit) refl refl
      by_truth No x h later =
          no_by on off (any_holds s rest) is_true (any_holds s (Then e rest)) x No (evaluate s e w) (evaluate s e u) w u (walk_tests k known rest place x) h (λ v fit. ap is_yes fit) refl refl later
      by_truth Unknown x h later =
          either_by on off (any_holds s rest) is_true (any_holds s (Then e rest)) x Unknown (evaluate s e w) (evaluate s e u) w u (walk_tests k known rest place x) h refl refl later

      by_walk : (o : WalkEnd DirtySet) → ExpressionAt p known o (decided known home e) (evaluate s e w) (evaluate s e u)
          → ((x : DirtySet) (w u : RunState) → Agree x w u → TestsAt (any_holds s rest) on off w u (walk_tests k known rest place x))
          → TestsAt (any_holds s (Then e rest)) on off w u (then_walk o (λ x. past_test (decided known home e) x (walk_tests k known rest place)))
      by_walk (FailsAt at q) h later = tt
      by_walk (GoesOn x) h later = by_truth (decided known home e) x h (later x)

  -- likewise the values of a `when` of a `select` over a value
  equals_same : (z : Value) (es : TypedExpressions) (place : Place) (d : DirtySet) (w u : RunState) (on off : RunState → StatementOutcome) → All (expressions_deeds c es) → Agree d w u
      → TestsAt (any_equals s z es) on off w u (walk_tests k no_flag es place d)
  equals_same z NoExpression place d w u on off q n = λ o f g. g w u n
  equals_same z (Then e rest) place d w u on off q n =
      by_walk (walk_expression k e place d) (value e place d w u (front p known R (expression_deeds c e) (expressions_deeds c rest) q) n)
      (λ x w u m. equals_same z rest place x w u on off (back p known R (expression_deeds c e) (expressions_deeds c rest) q) m)
    where
      by_walk : (o : WalkEnd DirtySet) → ExpressionAt p known o (decided known home e) (evaluate s e w) (evaluate s e u)
          → ((x : DirtySet) (w u : RunState) → Agree x w u → TestsAt (any_equals s z rest) on off w u (walk_tests k no_flag rest place x))
          → TestsAt (any_equals s z (Then e rest)) on off w u (then_walk o (λ x. past_test (decided no_flag home e) x (walk_tests k no_flag rest place)))
      by_walk (FailsAt at q) h later = tt
      by_walk (GoesOn x) h later =
          subst (λ t. TestsAt (any_equals s z (Then e rest)) on off w u (past_test t x (walk_tests k no_flag rest place))) (sym (undecided home e))
          (either_by on off (any_equals s z rest) (λ v. is_true (compared_of Equal z v)) (any_equals s z (Then e rest)) x (decided known home e) (evaluate s e w) (evaluate s e u) w u (walk_tests k no_flag rest place x) h refl refl (later x))

  tests_then : (any : RunState → (RunState → StatementOutcome) → (RunState → StatementOutcome) → StatementOutcome) (on off : RunState → StatementOutcome) (w u : RunState) (o : WalkEnd TestsEnd)
      (go past : DirtySet → WalkEnd WaysOut) → TestsAt any on off w u o
      → ((x : DirtySet) (w u : RunState) → Agree x w u → Same (go x) (on w) (on u)) → ((x : DirtySet) (w u : RunState) → Agree x w u → Same (past x) (off w) (off u))
      → Same (then_walk o (λ x. both_ways (go x.holding) (past x.failing))) (any w on off) (any u on off)
  tests_then any on off w u (FailsAt at place) go past h f g = tt
  tests_then any on off w u (GoesOn x) go past h f g =
      h (both_ways (go x.holding) (past x.failing)) (λ w u m. both_left p known (go x.holding) (past x.failing) (on w) (on u) (f x.holding w u m))
      (λ w u m. both_right p known (go x.holding) (past x.failing) (off w) (off u) (g x.failing w u m))

  -- ---- loops

  expression_below : (e : TypedExpression) (place : Place) (d x : DirtySet) → Below x d → WithinAt d (walk_expression k e place x)
  expression_below e place d x b = expression_within d k (λ m q y c. calls_within d m q y c) e place x b

  body_below : (t : TypedStatements) (d x : DirtySet) → Below x d → WaysWithin d (walk_all k t x)
  body_below t d x b = body_within d k (λ m q y c. calls_within d m q y c) t x b

  module _ (place : Place) (e : TypedExpression) (body : RunState → StatementOutcome) (head x : DirtySet) (ways : WaysOut) (q : All (expression_deeds c e))
      (tested : (w u : RunState) → Agree head w u → SameExpression p known x (decided known home e) (evaluate s e w) (evaluate s e u)) (x_below : Below x head)
      (run : (w u : RunState) → Agree x w u → SameStatement p known ways (body w) (body u)) (below : WaysWithin head (GoesOn ways)) where
    -- a loop that tests before its body
    while_some : (n : ℕ) (w u : RunState) → Agree head w u → SameStatement p known (past_loop head ways) (rounds_while s n place e body w) (rounds_while s n place e body u)
    while_some zero w u h = step_fails_same p known place head w u (GoesOn (past_loop head ways)) h
    while_some (suc n) w u h =
        let o = GoesOn (past_loop head ways) in
        let go = rounds_while s n place e body in
        begun_same p known place head w u o (λ w. then_value (evaluate s e w) (λ v y. after_test (is_true v) y (λ z. then_round (body z) go) Proceeds))
        (λ w. then_value (evaluate s e w) (λ v y. after_test (is_true v) y (λ z. then_round (body z) go) Proceeds)) h
        (λ w u m. value_some p known x (decided known home e) (evaluate s e w) (evaluate s e u) o (λ v y. after_test (is_true v) y (λ z. then_round (body z) go) Proceeds)
        (λ v y. after_test (is_true v) y (λ z. then_round (body z) go) Proceeds) (tested w u m)
        (λ v w u m fit. test_any p known (is_true v) x w u o (λ z. then_round (body z) go) Proceeds (λ z. then_round (body z) go) Proceeds m
        (λ w u m. round_some p known ways o (body w) (body u) go go (run w u m)
        (λ w u r. while_some n w u (near_below p known ways.onward head w u below.0 r))
        (λ w u r. proceed w u (near_below p known ways.leaves head w u below.1 r))
        (λ w u r. while_some n w u (near_below p known ways.continues head w u below.2 r))
        (λ v w u r. return' v w u r))
        (λ w u m. proceed w u (near_below p known x head w u x_below m))))

  module _ (place : Place) (e : TypedExpression) (body : RunState → StatementOutcome) (head x : DirtySet) (ways : WaysOut)
      (run : (w u : RunState) → Agree head w u → SameStatement p known ways (body w) (body u))
      (tested : (w u : RunState) → Agree (united ways.onward ways.continues) w u → SameExpression p known x (decided known home e) (evaluate s e w) (evaluate s e u)) (x_below : Below x head) where
    -- a loop that tests behind its body
    until_some : (n : ℕ) (w u : RunState) → Agree head w u → SameStatement p known (past_last_test ways x) (rounds_until s n place e body w) (rounds_until s n place e body u)
    until_some zero w u h =
        let o = GoesOn (past_last_test ways x) in
        round_some p known ways o (body w) (body u) (step_fails place) (step_fails place) (run w u h)
        (λ w u r. step_fails_same p known place ways.onward w u o r)
        (λ w u r. proceed w u (near_below p known ways.leaves (united x ways.leaves) w u (λ at clean. right_clean (x at) (ways.leaves at) clean) r))
        (λ w u r. step_fails_same p known place ways.continues w u o r)
        (λ v w u r. return' v w u r)
    until_some (suc n) w u h =
        let o = GoesOn (past_last_test ways x) in
        let into = united ways.onward ways.continues in
        let go = rounds_until s n place e body in
        let turn : RunState → StatementOutcome = λ (w : RunState). begin_step place w (λ y. then_value (evaluate s e y) (λ v z. after_test (is_true v) z Proceeds go)) in
        let round : (w u : RunState) → Agree into w u → Same o (turn w) (turn u) = λ w u m.
        begun_same p known place into w u o (λ y. then_value (evaluate s e y) (λ v z. after_test (is_true v) z Proceeds go)) (λ y. then_value (evaluate s e y) (λ v z. after_test (is_true v) z Proceeds go)) m
        (λ w u m. value_some p known x (decided known home e) (evaluate s e w) (evaluate s e u) o (λ v z. after_test (is_true v) z Proceeds go) (λ v z. after_test (is_true v) z Proceeds go) (tested w u m)
        (λ v w u m fit. test_any p known (is_true v) x w u o Proceeds go Proceeds go m
        (λ w u r. proceed w u (near_below p known x (united x ways.leaves) w u (λ at clean. left_clean (x at) (ways.leaves at) clean) r))
        (λ w u r. until_some n w u (near_below p known x head w u x_below r)))) in
        round_some p known ways o (body w) (body u) turn turn (run w u h)
        (λ w u r. round w u (near_below p known ways.onward into w u (λ at clean. left_clean (ways.onward at) (ways.continues at) clean) r))
        (λ w u r. proceed w u (near_below p known ways.leaves (united x ways.leaves) w u (λ at clean. right_clean (x at) (ways.leaves at) clean) r))
        (λ w u r. round w u (near_below p known ways.continues into w u (λ at clean. right_clean (ways.onward at) (ways.continues at) clean) r))
        (λ v w u r. return' v w u r)

  module _ (place : Place) (i : Reference) (end : Value) (step : Option Value) (body : RunState → StatementOutcome) (head : DirtySet) (ways : WaysOut)
      (free : AllByRecursion (Free known) (variable_at home i)) (is : AllByRecursion (IsValueAt p) (variable_at home i)) (clean : AllByRecursion (λ at. head at ≡ false) (variable_at home i))
      (run : (w u : RunState) → Agree head w u → SameStatement p known ways (body w) (body u)) (below : WaysWithin head (GoesOn ways)) where
    abbrev adds : (RunState → StatementOutcome) → RunState → StatementOutcome
    adds go y = begin_step place y (λ z. then_value (attempt (sum_of (variable_value home i z) (step_or_one step)) z) (λ v r. go (store home i v r)))

    adds_same : (go : RunState → StatementOutcome) → ((w u : RunState) → Agree head w u → SameStatement p known (past_loop head ways) (go w) (go u)) → (w u : RunState) → Agree head w u
        → SameStatement p known (past_loop head ways) (adds go w) (adds go u)
    adds_same go later w u n =
        let o = GoesOn (past_loop head ways) in
        begun_same p known place head w u o (λ z. then_value (attempt (sum_of (variable_value home i z) (step_or_one step)) z) (λ v r. go (store home i v r)))
        (λ z. then_value (attempt (sum_of (variable_value home i z) (step_or_one step)) z) (λ v r. go (store home i v r))) n
        (λ w u m. subst (λ z. Same o (then_value (attempt (sum_of (variable_value home i w) (step_or_one step)) w) (λ v r. go (store home i v r))) (then_value (attempt (sum_of z (step_or_one step)) u) (λ v r. go (store home i v r))))
        (near_value p known home i head w u is clean m)
        (value_some p known head Unknown (attempt (sum_of (variable_value home i w) (step_or_one step)) w) (attempt (sum_of (variable_value home i w) (step_or_one step)) u) o (λ v r. go (store home i v r)) (λ v r. go (store home i v r))
        (attempt_same p known head Unknown (sum_of (variable_value home i w) (step_or_one step)) w u (λ v e. tt) m)
        (λ v w u r fit. later (store home i v w) (store home i v u) (near_stored p known home i v head w u free r))))

    round_counted : (go : RunState → StatementOutcome) → ((w u : RunState) → Agree head w u → SameStatement p known (past_loop head ways) (go w) (go u)) → (w u : RunState) → Agree head w u
        → SameStatement p known (past_loop head ways) (counts_on (variable_value home i w) end step w (λ u. then_round (body u) go) Proceeds) (counts_on (variable_value home i u) end step u (λ u. then_round (body u) go) Proceeds)
    round_counted go later w u n =
        let o = GoesOn (past_loop head ways) in
        subst (λ z. Same o (counts_on (variable_value home i w) end step w (λ u. then_round (body u) go) Proceeds) (counts_on z end step u (λ u. then_round (body u) go) Proceeds)) (near_value p known home i head w u is clean n)
        (counts_same p known (variable_value home i w) end step head w u o (λ u. then_round (body u) go) Proceeds (λ u. then_round (body u) go) Proceeds n
        (λ w u m. round_some p known ways o (body w) (body u) go go (run w u m)
        (λ w u r. later w u (near_below p known ways.onward head w u below.0 r))
        (λ w u r. proceed w u (near_below p known ways.leaves head w u below.1 r))
        (λ w u r. later w u (near_below p known ways.continues head w u below.2 r))
        (λ v w u r. return' v w u r))
        (λ w u m. proceed w u m))

    counted_some : (n : ℕ) (w u : RunState) → Agree head w u → SameStatement p known (past_loop head ways) (rounds_counted s n place i end step body w) (rounds_counted s n place i end step body u)
    counted_some zero w u n = round_counted (step_fails place) (λ w u m. step_fails_same p known place head w u (GoesOn (past_loop head ways)) m) w u n
    counted_some (suc m) w u n = round_counted (adds (rounds_counted s m place i end step body)) (λ w u r. adds_same (rounds_counted s m place i end step body) (λ w u o. counted_some m w u o) w u r) w u n

  -- loops, by how their walks go
  while_same : (place : Place) (e : TypedExpression) (t : TypedStatements) (d : DirtySet) (o : WalkEnd DirtySet) → All (expression_deeds c e)
      → ((w u : RunState) → Agree d w u → ExpressionAt p known o (decided known home e) (evaluate s e w) (evaluate s e u)) → WithinAt d o
      → ((x : DirtySet) (w u : RunState) → Agree x w u → Same (walk_all k t x) (exec_all s t w) (exec_all s t u)) → (n : ℕ) (w u : RunState) → Agree d w u
      → Same (then_walk o (λ x. then_walk (walk_all k t x) (λ ways. GoesOn (past_loop d ways)))) (rounds_while s n place e (exec_all s t) w) (rounds_while s n place e (exec_all s t) u)
  while_same place e t d (FailsAt at z) q tested b run n w u h = tt
  while_same place e t d (GoesOn x) q tested b run n w u h = by (walk_all k t x) (run x) (body_below t d x b)
    where
      by : (o : WalkEnd WaysOut) → ((w u : RunState) → Agree x w u → Same o (exec_all s t w) (exec_all s t u)) → WaysWithin d o
          → Same (then_walk o (λ ways. GoesOn (past_loop d ways))) (rounds_while s n place e (exec_all s t) w) (rounds_while s n place e (exec_all s t) u)
      by (FailsAt at z) r below = tt
      by (GoesOn ways) r below = while_some place e (exec_all s t) d x ways q tested b r below n w u h

  until_same : (place : Place) (e : TypedExpression) (t : TypedStatements) (d : DirtySet) (o : WalkEnd WaysOut)
      → ((w u : RunState) → Agree d w u → Same o (exec_all s t w) (exec_all s t u)) → WaysWithin d o
      → ((x : DirtySet) (w u : RunState) → Agree x w u → ExpressionAt p known (walk_expression k e place x) (decided known home e) (evaluate s e w) (evaluate s e u)) → (n : ℕ) (w u : RunState) → Agree d w u
      → Same (then_walk o (λ ways. then_walk (walk_expression k e place (united ways.onward ways.continues)) (λ tested. GoesOn (past_last_test ways tested))))
      (rounds_until s n place e (exec_all s t) w) (rounds_until s n place e (exec_all s t) u)
  until_same place e t d (FailsAt at z) run below tested n w u h = tt
  until_same place e t d (GoesOn ways) run below tested n w u h =
      by (walk_expression k e place (united ways.onward ways.continues)) (tested (united ways.onward ways.continues))
      (expression_below e place d (united ways.onward ways.continues) (λ at clean. both (ways.onward at) (ways.continues at) (below.0 at clean) (below.2 at clean)))
    where
      both : (a b : Bool) → a ≡ false → b ≡ false → (a || b) ≡ false
      both true b e f = e
      both false b e f = f

      by : (o : WalkEnd DirtySet) → ((w u : RunState) → Agree (united ways.onward ways.continues) w u → ExpressionAt p known o (decided known home e) (evaluate s e w) (evaluate s e u)) → WithinAt d o
          → Same (then_walk o (λ tested. GoesOn (past_last_test ways tested))) (rounds_until s n place e (exec_all s t) w) (rounds_until s n place e (exec_all s t) u)
      by (FailsAt at z) r b = tt
      by (GoesOn x) r b = until_some place e (exec_all s t) d x ways run r b n w u h

  cleaned_at : (i : Reference) (d : DirtySet) → AllByRecursion (λ at. all_cleaned (variable_at home i) d at ≡ false) (variable_at home i)
  cleaned_at (At g) d = (ap (λ (b : Bool). if b then false else d (global_at home g)) (location_self (global_at home g)), tt)
  cleaned_at (Local name) d = tt

  counted_same : (place : Place) (i : Reference) (end : Value) (step : Option Value) (t : TypedStatements) (z : DirtySet) → All (set_deeds home i)
      → ((x : DirtySet) (w u : RunState) → Agree x w u → Same (walk_all k t x) (exec_all s t w) (exec_all s t u)) → (n : ℕ) (w u : RunState) → Agree (all_cleaned (variable_at home i) z) w u
      → Same (then_walk (walk_all k t (all_cleaned (variable_at home i) z)) (λ ways. GoesOn (past_loop (all_cleaned (variable_at home i) z) ways)))
      (rounds_counted s n place i end step (exec_all s t) w) (rounds_counted s n place i end step (exec_all s t) u)
  counted_same place i end step t z q run n w u h = by (walk_all k t head) (run head) (body_below t head head (λ at e. e))
    where
      head : DirtySet
      head = all_cleaned (variable_at home i) z

      by : (o : WalkEnd WaysOut) → ((w u : RunState) → Agree head w u → Same o (exec_all s t w) (exec_all s t u)) → WaysWithin head o
          → Same (then_walk o (λ ways. GoesOn (past_loop head ways))) (rounds_counted s n place i end step (exec_all s t) w) (rounds_counted s n place i end step (exec_all s t) u)
      by (FailsAt at x) r below = tt
      by (GoesOn ways) r below = counted_some place i end step (exec_all s t) head ways (set_free p known R home i q) (set_is p known R home i q) (cleaned_at i z) r below n w u h

  abbrev left_of : RunState → ℕ
  left_of w = w.progress.left

  left_same : (d : DirtySet) (w u : RunState) → Agree d w u → left_of w ≡ left_of u
  left_same d w u n = ap (λ (x : Progress). x.left) n.progress

  -- ---- every statement

  mutual
    pub statement_same : (t : TypedStatement) (d : DirtySet) (w u : RunState) → All (statement_deeds c t) → Agree d w u → Same (walk k t d) (exec s t w) (exec s t u)
    statement_same (Empty place) d w u q n = begun_same p known place d w u (GoesOn (way_on d)) Proceeds Proceeds n (λ w u m. proceed w u m)
    statement_same (Assign place r e) d w u q n =
        begun_same p known place d w u (walk k (Assign place r e) d) (λ w. then_value (evaluate s e w) (λ v y. Proceeds (store home r v y))) (λ w. then_value (evaluate s e w) (λ v y. Proceeds (store home r v y))) n
        (λ w u m. value_same p known (walk_expression k e place d) (decided known home e) (evaluate s e w) (evaluate s e u) (λ x. GoesOn (way_on (all_cleaned (variable_at home r) x)))
        (λ v y. Proceeds (store home r v y)) (λ v y. Proceeds (store home r v y)) (value e place d w u (front p known R (expression_deeds c e) (set_deeds home r) q) m)
        (λ x v w u o f. proceed (store home r v w) (store home r v u) (near_store p known home r v x w u (set_free p known R home r (back p known R (expression_deeds c e) (set_deeds home r) q)) o)))
    statement_same (Invoke place instance m es) d w u q n =
        begun_same p known place d w u (walk k (Invoke place instance m es) d) (λ w. dropped (call s instance m es w)) (λ w. dropped (call s instance m es w)) n
        (λ w u o. dropped_same p known (walk_call k instance m es place d) (call s instance m es w) (call s instance m es u) (called instance m es place d w u q o))
    statement_same (Evaluate place e) d w u q n =
        begun_same p known place d w u (walk k (Evaluate place e) d) (λ w. then_value (evaluate s e w) (λ v y. Proceeds y)) (λ w. then_value (evaluate s e w) (λ v y. Proceeds y)) n
        (λ w u m. value_same p known (walk_expression k e place d) (decided known home e) (evaluate s e w) (evaluate s e u) (λ x. GoesOn (way_on x)) (λ v y. Proceeds y) (λ v y. Proceeds y)
        (value e place d w u q m) (λ x v w u o f. proceed w u o))
    statement_same (SetParameters place instance ps) d w u q n =
        begun_same p known place d w u (walk k (SetParameters place instance ps) d) (with_parameters_set s instance ps) (with_parameters_set s instance ps) n (λ w u m. parameters_same instance ps place d w u q m)
    statement_same (Construct place instance m es) d w u q n =
        begun_same p known place d w u (walk k (Construct place instance m es) d) (constructed s instance m es) (constructed s instance m es) n (λ w u o. constructed_same instance m es place d w u q o)
    statement_same (Leave place) d w u q n = begun_same p known place d w u (walk k (Leave place) d) Leaves Leaves n (λ w u m. leave w u m)
    statement_same (Continue place) d w u q n = begun_same p known place d w u (walk k (Continue place) d) Continues Continues n (λ w u m. continue' w u m)
    statement_same (Return place) d w u q n = begun_same p known place d w u (walk k (Return place) d) (Returns Null) (Returns Null) n (λ w u m. return' Null w u m)
    statement_same (ReturnValue place e) d w u q n =
        begun_same p known place d w u (walk k (ReturnValue place e) d) (λ w. then_value (evaluate s e w) Returns) (λ w. then_value (evaluate s e w) Returns) n
        (λ w u m. value_same p known (walk_expression k e place d) (decided known home e) (evaluate s e w) (evaluate s e u) (λ x. GoesOn (record no_way { returns = x })) Returns Returns
        (value e place d w u q m) (λ x v w u o f. return' v w u o))
    statement_same (Output place ns) d w u q n =
        begun_same p known place d w u (walk k (Output place ns) d) (λ w. Proceeds (write_each home outputs ns w)) (λ w. Proceeds (write_each home outputs ns w)) n
        (λ w u m. reads_then p known WaysOut place (columns_written c ns) d (λ x. GoesOn (way_on x)) (λ o. Same o (Proceeds (write_each home outputs ns w)) (Proceeds (write_each home outputs ns u))) (λ x y. tt)
        (λ clean. proceed (write_each home outputs ns w) (write_each home outputs ns u) (near_written p known home outputs ns d w u (mentioned p known R (columns_written c ns) q.1) clean m)))
    statement_same (Put place items) d w u q n =
        begun_same p known place d w u (walk k (Put place items) d) (λ w. with_texts s items w (λ texts y. Proceeds (put_line (join_with_byte 32 texts) y)))
        (λ w. with_texts s items w (λ texts y. Proceeds (put_line (join_with_byte 32 texts) y))) n
        (λ w u m. texts_same items place d w u (λ texts y. Proceeds (put_line (join_with_byte 32 texts) y)) q.1 m
        (λ ts x w u o. proceed (put_line (join_with_byte 32 ts) w) (put_line (join_with_byte 32 ts) u)
        (near_progress p known x w u (with_line (join_with_byte 32 ts) w.progress) (with_line (join_with_byte 32 ts) u.progress) o (ap (with_line (join_with_byte 32 ts)) o.progress))))
    statement_same (If place e on) d w u q n =
        begun_same p known place d w u (walk k (If place e on) d) (λ w. then_value (evaluate s e w) (λ v y. after_test (is_true v) y (exec s on) Proceeds))
        (λ w. then_value (evaluate s e w) (λ v y. after_test (is_true v) y (exec s on) Proceeds)) n
        (λ w u m. value_same p known (walk_expression k e place d) (decided known home e) (evaluate s e w) (evaluate s e u) (λ x. by_condition (decided known home e) (walk k on x) (GoesOn (way_on x)))
        (λ v y. after_test (is_true v) y (exec s on) Proceeds) (λ v y. after_test (is_true v) y (exec s on) Proceeds) (value e place d w u (front p known R (expression_deeds c e) (statement_deeds c on) q) m)
        (λ x v w u o f. condition_same p known (decided known home e) v x w u (walk k on x) (GoesOn (way_on x)) (exec s on) Proceeds (exec s on) Proceeds f o
        (λ w u r. statement_same on x w u (back p known R (expression_deeds c e) (statement_deeds c on) q) r) (λ w u r. proceed w u r)))
    statement_same (IfElse place e on off) d w u q n =
        let two = front p known R (expression_deeds c e ++ statement_deeds c on) (statement_deeds c off) q in
        begun_same p known place d w u (walk k (IfElse place e on off) d) (λ w. then_value (evaluate s e w) (λ v y. after_test (is_true v) y (exec s on) (exec s off)))
        (λ w. then_value (evaluate s e w) (λ v y. after_test (is_true v) y (exec s on) (exec s off))) n
        (λ w u m. value_same p known (walk_expression k e place d) (decided known home e) (evaluate s e w) (evaluate s e u) (λ x. by_condition (decided known home e) (walk k on x) (walk k off x))
        (λ v y. after_test (is_true v) y (exec s on) (exec s off)) (λ v y. after_test (is_true v) y (exec s on) (exec s off)) (value e place d w u (front p known R (expression_deeds c e) (statement_deeds c on) two) m)
        (λ x v w u o f. condition_same p known (decided known home e) v x w u (walk k on x) (walk k off x) (exec s on) (exec s off) (exec s on) (exec s off) f o
        (λ w u r. statement_same on x w u (back p known R (expression_deeds c e) (statement_deeds c on) two) r)
        (λ w u r. statement_same off x w u (back p known R (expression_deeds c e ++ statement_deeds c on) (statement_deeds c off) q) r)))
    statement_same (Select place whens) d w u q n =
        begun_same p known place d w u (walk k (Select place whens) d) (select s whens) (select s whens) n (λ w u m. whens_same whens place d w u q m)
    statement_same (SelectValue place e whens) d w u q n =
        begun_same p known place d w u (walk k (SelectValue place e whens) d) (λ w. then_value (evaluate s e w) (λ v y. select_value s v whens y)) (λ w. then_value (evaluate s e w) (λ v y. select_value s v whens y)) n
        (λ w u m. value_same p known (walk_expression k e place d) (decided known home e) (evaluate s e w) (evaluate s e u) (walk_whens k no_flag whens place)
        (λ v y. select_value s v whens y) (λ v y. select_value s v whens y) (value e place d w u (front p known R (expression_deeds c e) (when_deeds c whens) q) m)
        (λ x v w u o f. value_whens_same v whens place x w u (back p known R (expression_deeds c e) (when_deeds c whens) q) o))
    statement_same (Block place body) d w u q n = begun_same p known place d w u (walk k (Block place body) d) (exec_all s body) (exec_all s body) n (λ w u m. body_same body d w u q m)
    statement_same (Count place i start end step body) d w u q n =
        let four = front p known R (expression_deeds c start ++ expression_deeds c end ++ step_deeds c step ++ set_deeds home i) (body_deeds c body) q in
        let three = front p known R (expression_deeds c start ++ expression_deeds c end ++ step_deeds c step) (set_deeds home i) four in
        let two = front p known R (expression_deeds c start ++ expression_deeds c end) (step_deeds c step) three in
        let own = back p known R (expression_deeds c start ++ expression_deeds c end ++ step_deeds c step) (set_deeds home i) four in
        let last = back p known R (expression_deeds c start ++ expression_deeds c end ++ step_deeds c step ++ set_deeds home i) (body_deeds c body) q in
        let end_walk : DirtySet → WalkEnd WaysOut = λ (z : DirtySet). then_walk (walk_all k body (all_cleaned (variable_at home i) z)) (λ ways. GoesOn (past_loop (all_cleaned (variable_at home i) z) ways)) in
        let loop : Value → Option Value → RunState → StatementOutcome = λ (b : Value) (x : Option Value) (r : RunState). rounds_counted s r.progress.left place i b x (exec_all s body) r in
        let last_go : Value → Value → Option Value → RunState → StatementOutcome = λ (a b : Value) (x : Option Value) (z : RunState). begin_step place (store home i a z) (loop b x) in
        begun_same p known place d w u (walk k (Count place i start end step body) d)
        (λ w. then_value (evaluate s start w) (λ a y. then_value (evaluate s end y) (λ b z. with_step_value s step z (last_go a b))))
        (λ w. then_value (evaluate s start w) (λ a y. then_value (evaluate s end y) (λ b z. with_step_value s step z (last_go a b)))) n
        (λ w u m. value_same p known (walk_expression k start place d) (decided known home start) (evaluate s start w) (evaluate s start u)
        (λ x. then_walk (walk_expression k end place x) (λ y. then_walk (walk_step k step place y) end_walk))
        (λ a y. then_value (evaluate s end y) (λ b z. with_step_value s step z (last_go a b))) (λ a y. then_value (evaluate s end y) (λ b z. with_step_value s step z (last_go a b)))
        (value start place d w u (front p known R (expression_deeds c start) (expression_deeds c end) two) m)
        (λ x a w u m f. value_same p known (walk_expression k end place x) (decided known home end) (evaluate s end w) (evaluate s end u) (λ y. then_walk (walk_step k step place y) end_walk)
        (λ b z. with_step_value s step z (last_go a b)) (λ b z. with_step_value s step z (last_go a b)) (value end place x w u (back p known R (expression_deeds c start) (expression_deeds c end) two) m)
        (λ y b w u m g. step_same step place y w u end_walk (last_go a b) (back p known R (expression_deeds c start ++ expression_deeds c end) (step_deeds c step) three) m
        (λ x z w u m. begun_same p known place (all_cleaned (variable_at home i) z) (store home i a w) (store home i a u) (end_walk z) (loop b x) (loop b x) (near_store p known home i a z w u (set_free p known R home i own) m)
        (λ w u m. subst (λ j. Same (end_walk z) (rounds_counted s w.progress.left place i b x (exec_all s body) w) (rounds_counted s j place i b x (exec_all s body) u)) (left_same (all_cleaned (variable_at home i) z) w u m)
        (counted_same place i b x body z own (λ y w u o. body_same body y w u last o) w.progress.left w u m))))))
    statement_same (While place e body) d w u q n =
        begun_same p known place d w u (walk k (While place e body) d) (λ w. rounds_while s w.progress.left place e (exec_all s body) w) (λ w. rounds_while s w.progress.left place e (exec_all s body) w) n
        (λ w u m. subst (λ j. Same (walk k (While place e body) d) (rounds_while s w.progress.left place e (exec_all s body) w) (rounds_while s j place e (exec_all s body) u)) (left_same d w u m)
        (while_same place e body d (walk_expression k e place d) (front p known R (expression_deeds c e) (body_deeds c body) q)
        (λ w u o. value e place d w u (front p known R (expression_deeds c e) (body_deeds c body) q) o) (expression_below e place d d (λ at z. z))
        (λ x w u o. body_same body x w u (back p known R (expression_deeds c e) (body_deeds c body) q) o) w.progress.left w u m))
    statement_same (Until place e body) d w u q n =
        begun_same p known place d w u (walk k (Until place e body) d) (λ w. rounds_until s w.progress.left place e (exec_all s body) w) (λ w. rounds_until s w.progress.left place e (exec_all s body) w) n
        (λ w u m. subst (λ j. Same (walk k (Until place e body) d) (rounds_until s w.progress.left place e (exec_all s body) w) (rounds_until s j place e (exec_all s body) u)) (left_same d w u m)
        (until_same place e body d (walk_all k body d) (λ w u o. body_same body d w u (back p known R (expression_deeds c e) (body_deeds c body) q) o) (body_below body d d (λ at z. z))
        (λ x w u o. value e place x w u (front p known R (expression_deeds c e) (body_deeds c body) q) o) w.progress.left w u m))

    pub body_same : (t : TypedStatements) (d : DirtySet) (w u : RunState) → All (body_deeds c t) → Agree d w u → Same (walk_all k t d) (exec_all s t w) (exec_all s t u)
    body_same Finish d w u q n = proceed w u n
    body_same (Next first rest) d w u q n =
        then_same p known (walk k first d) (exec s first w) (exec s first u) (walk_all k rest) (exec_all s rest) (exec_all s rest) (statement_same first d w u (front p known R (statement_deeds c first) (body_deeds c rest) q) n)
        (λ x w u m. body_same rest x w u (back p known R (statement_deeds c first) (body_deeds c rest) q) m)

    whens_same : (t : TypedWhens) (place : Place) (d : DirtySet) (w u : RunState) → All (when_deeds c t) → Agree d w u → Same (walk_whens k known t place d) (select s t w) (select s t u)
    whens_same NoOtherwise place d w u q n = fault NoWhen (noting_failure w) (noting_failure u) (ap with_failure n.progress)
    whens_same (Otherwise t) place d w u q n = statement_same t d w u q n
    whens_same (When es t rest) place d w u q n =
        let two = front p known R (expressions_deeds c es ++ statement_deeds c t) (when_deeds c rest) q in
        tests_then (any_holds s es) (exec s t) (select s rest) w u (walk_tests k known es place d) (walk k t) (walk_whens k known rest place)
        (holds_same es place d w u (exec s t) (select s rest) (front p known R (expressions_deeds c es) (statement_deeds c t) two) n)
        (λ x w u m. statement_same t x w u (back p known R (expressions_deeds c es) (statement_deeds c t) two) m)
        (λ x w u m. whens_same rest place x w u (back p known R (expressions_deeds c es ++ statement_deeds c t) (when_deeds c rest) q) m)

    value_whens_same : (z : Value) (t : TypedWhens) (place : Place) (d : DirtySet) (w u : RunState) → All (when_deeds c t) → Agree d w u
        → Same (walk_whens k no_flag t place d) (select_value s z t w) (select_value s z t u)
    value_whens_same z NoOtherwise place d w u q n = fault NoWhen (noting_failure w) (noting_failure u) (ap with_failure n.progress)
    value_whens_same z (Otherwise t) place d w u q n = statement_same t d w u q n
    value_whens_same z (When es t rest) place d w u q n =
        let two = front p known R (expressions_deeds c es ++ statement_deeds c t) (when_deeds c rest) q in
        tests_then (any_equals s z es) (exec s t) (select_value s z rest) w u (walk_tests k no_flag es place d) (walk k t) (walk_whens k no_flag rest place)
        (equals_same z es place d w u (exec s t) (select_value s z rest) (front p known R (expressions_deeds c es) (statement_deeds c t) two) n)
        (λ x w u m. statement_same t x w u (back p known R (expressions_deeds c es) (statement_deeds c t) two) m)
        (λ x w u m. value_whens_same z rest place x w u (back p known R (expressions_deeds c es ++ statement_deeds c t) (when_deeds c rest) q) m)
