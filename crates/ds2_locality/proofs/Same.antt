-- Two runs of one statement from states that agree outside of a dirty set from which its walk does not fail.
use Rattle.std.proofs.Common.{◌≡◌, ℕ, Bool, true, false, List, [], ◌∷◌, ◌++◌, map, fold, Option, refl, sym, ◌∙◌, subst, if◌then◌else◌}
use Rattle.std.specs.List.{AllByRecursion}
use Rattle.std.specs.Prelude.{pos}
use Rattle.ds2_base.specs.declared.place.Place.{Place}
use Rattle.ds2_value.specs.Functions.{concat_of, first_of, lesser_of, greater_of}
use Rattle.ds2_value.specs.Operations.{widened, truth_value, of_decimals, of_decimal, of_one, or_null_at_fault}
use Rattle.ds2_value.specs.Types.{assign_of}
use Rattle.ds2_value.specs.Value.{sum_of, difference_of, product_of, negative_of, compared_of, truth_of, and_of, or_of, not_of}
use Rattle.ds2_value.specs.ValueFunctions.{function_value}
use Rattle.ds2_value.specs.declared.truth.Truth.{Truth}
use Rattle.ds2_value.specs.declared.truth.Truth.TheVariants.{Yes, Unknown}
use Rattle.ds2_value.specs.declared.ty.Ty.{Ty}
use Rattle.ds2_value.specs.declared.ty.Ty.TheVariants.{BigInt, Decimal as DecimalOf, Char, Varchar}
use Rattle.ds2_value.specs.declared.value.Value.{Value}
use Rattle.ds2_value.specs.declared.value.Value.TheVariants.{Null, Int}
use Rattle.ds2_decimal.specs.Arithmetic as decimal
use Rattle.ds2_meaning.specs.declared.expressions.Function.{Function}
use Rattle.ds2_meaning.specs.declared.expressions.Function.TheVariants as function
use Rattle.ds2_meaning.specs.declared.expressions.Operation.{Operation}
use Rattle.ds2_meaning.specs.declared.expressions.Operation.TheVariants as operation
use Rattle.ds2_meaning.specs.declared.expressions.Prefix.TheVariants as prefix
use Rattle.ds2_meaning.specs.declared.location.Reference.{Reference}
use Rattle.ds2_meaning.specs.declared.location.Reference.TheVariants.{At, Local}
use Rattle.ds2_meaning.specs.Evaluation.{Surroundings, Calls, CallEnd, callee_home, with_one_more, then_call, taken_back, after_call, call_with, evaluate, evaluate_links, evaluate_all, evaluate_arguments, call}
use Rattle.ds2_meaning.specs.HashObjects.{hash_named, iterator_named}
use Rattle.ds2_meaning.specs.Location.{Home, Location, Holds, held}
use Rattle.ds2_meaning.specs.ProgramTree.{UnitTree, objects_of}
use Rattle.ds2_meaning.specs.RunState.{RunState, Gives, then_operand, variable_value}
use Rattle.ds2_meaning.specs.TypedExpression.{TypedExpression, Constant, Variable, Widen, Convert, Prefixed, Chain, Compared, Applied, Called, HashCalled, IteratorCalled, Links, NoLink, Link, TypedExpressions, NoExpression, Then, TypedArguments, NoArgument, ByValue, InOut}
use Rattle.ds2_meaning.specs.ValueOperations.{operated, prefixed, converted, applied}
use Rattle.ds2_locality.specs.Deeds.{MethodAt, CodeScope, global_at, variable_at, Deed, Mention, Change, CallOf, set_deeds, expression_deeds, link_deeds, expressions_deeds, argument_deeds, call_deeds}
use Rattle.ds2_locality.specs.KeptLocations.{seen_at}
use Rattle.ds2_locality.specs.Walk.{DirtySet, WalkEnd, FailsAt, GoesOn, then_walk, decided_by, decided_flag, decided, decided_links, CallWalks, WalkScope, walk_expression, walk_links, walk_expressions, walk_arguments, walk_call}
use Rattle.ds2_locality.proofs.Frame.{all_front, all_back, Allowed, Any}
use Rattle.ds2_locality.proofs.Near.{Fits, fits_one, fits_not, fits_and, fits_or, Free, IsValueAt, Near, near_stored, near_value, SameExpression, give, ExpressionAt, give_all, ExpressionsAt, SameCall, answer, break_call, CallAt, reads_then, reads_alone, attempt_same, operand_some, operand_same, alone_same, one_more_same, others_same, all_same, then_call_same, result_same}
use Rattle.ds2_locality.proofs.SameObjects.{ObjectsStand, hash_call_same, iterator_call_same}

-- what is asked of deeds: a variable that they mention is seen as one, a location that they change is no known flag, and of a method that
-- they call R is told
abbrev pub Asked : UnitTree → (Location → Bool) → (MethodAt → Type 0) → Deed → Type 0
Asked p known R deed = Allowed (IsValueAt p) Any (Free known) R deed

module _ (p : UnitTree) (known : Location → Bool) (R : MethodAt → Type 0) where
  abbrev pub Fine : List Deed → Type 0
  Fine deeds = AllByRecursion (Asked p known R) deeds

  abbrev pub front : (xs ys : List Deed) → Fine (xs ++ ys) → Fine xs
  front xs ys h = all_front (Asked p known R) xs ys h

  abbrev pub back : (xs ys : List Deed) → Fine (xs ++ ys) → Fine ys
  back xs ys h = all_back (Asked p known R) xs ys h

  pub mentioned : (ats : List Location) → Fine (map Mention ats) → AllByRecursion (IsValueAt p) ats
  mentioned [] h = tt
  mentioned (at ∷ ats) h = (h.0, mentioned ats h.1)

  pub changed_free : (ats : List Location) → Fine (map Change ats) → AllByRecursion (Free known) ats
  changed_free [] h = tt
  changed_free (at ∷ ats) h = (h.0, changed_free ats h.1)

  pub set_free : (home : Home) (r : Reference) → Fine (set_deeds home r) → AllByRecursion (Free known) (variable_at home r)
  set_free home r h = changed_free (variable_at home r) (back (map Mention (variable_at home r)) (map Change (variable_at home r)) h)

  pub set_is : (home : Home) (r : Reference) → Fine (set_deeds home r) → AllByRecursion (IsValueAt p) (variable_at home r)
  set_is home r h = mentioned (variable_at home r) (front (map Mention (variable_at home r)) (map Change (variable_at home r)) h)

-- ---- operations

module _ (p : UnitTree) (known : Location → Bool) where
  pub operated_same : (o : Operation) (t q : Truth) (a b : Value) (d : DirtySet) (w u : RunState) → Fits t a → Fits q b → Near p known d w u
      → SameExpression p known d (decided_by o t q) (operated o a b w) (operated o a b u)
  operated_same operation.IntegerAdd t q a b d w u f g n = attempt_same p known d Unknown (sum_of a b) w u (λ v e. tt) n
  operated_same operation.IntegerSubtract t q a b d w u f g n = attempt_same p known d Unknown (difference_of a b) w u (λ v e. tt) n
  operated_same operation.IntegerMultiply t q a b d w u f g n = attempt_same p known d Unknown (product_of a b) w u (λ v e. tt) n
  operated_same operation.DecimalAdd t q a b d w u f g n = attempt_same p known d Unknown (of_decimals decimal.add a b) w u (λ v e. tt) n
  operated_same operation.DecimalSubtract t q a b d w u f g n = attempt_same p known d Unknown (of_decimals decimal.sub a b) w u (λ v e. tt) n
  operated_same operation.DecimalMultiply t q a b d w u f g n = attempt_same p known d Unknown (of_decimals decimal.mul a b) w u (λ v e. tt) n
  operated_same operation.DecimalDivide t q a b d w u f g n = attempt_same p known d Unknown (of_decimals decimal.div a b) w u (λ v e. tt) n
  operated_same operation.Concatenate t q a b d w u f g n = give (concat_of (a ∷ b ∷ [])) w u n tt
  operated_same operation.And t q a b d w u f g n = give (truth_value (and_of (truth_of a) (truth_of b))) w u n (fits_and t q a b f g)
  operated_same operation.Or t q a b d w u f g n = give (truth_value (or_of (truth_of a) (truth_of b))) w u n (fits_or t q a b f g)

  converted_same : (ty : Ty) (a : Value) (d : DirtySet) (w u : RunState) → Near p known d w u → SameExpression p known d Unknown (converted ty a w) (converted ty a u)
  converted_same BigInt a d w u n = give a w u n tt
  converted_same (DecimalOf x y) a d w u n = attempt_same p known d Unknown (assign_of a (DecimalOf x y)) w u (λ v e. tt) n
  converted_same (Char x) a d w u n = give (or_null_at_fault (assign_of a (Char x))) w u n tt
  converted_same (Varchar x) a d w u n = give (or_null_at_fault (assign_of a (Varchar x))) w u n tt

  applied_same : (f : Function) (vs : List Value) (d : DirtySet) (w u : RunState) → Near p known d w u → SameExpression p known d Unknown (applied f vs w) (applied f vs u)
  applied_same (function.Value f) vs d w u n = attempt_same p known d Unknown (function_value f vs) w u (λ v e. tt) n
  applied_same function.Coalesce vs d w u n = give (fold first_of Null vs) w u n tt
  applied_same function.Least vs d w u n = give (fold lesser_of Null vs) w u n tt
  applied_same function.Greatest vs d w u n = give (fold greater_of Null vs) w u n tt
  applied_same function.Unchanged vs d w u n = give (of_one (λ v. v) vs) w u n tt

  -- a widened value is not decided
  widened_fits : (widens : Bool) (t : Truth) (v : Value) → Fits t v → Fits (if widens then Unknown else t) (if widens then widened v else v)
  widened_fits true t v h = tt
  widened_fits false t v h = h

  gives_same : (t : Truth) (v z : Value) (d : DirtySet) (w u : RunState) → v ≡ z → Fits t v → Near p known d w u → SameExpression p known d t (Gives v w) (Gives z u)
  gives_same t v z d w u e f n = subst (λ x. SameExpression p known d t (Gives v w) (Gives x u)) e (give v w u n f)

  flag_by : (b : Bool) (at : Location) (w : RunState) → IsValueAt p at → (b ≡ true → seen_at p at (w.storage at) ≡ Holds (Int (pos 1))) → Fits (if b then Yes else Unknown) (held (w.storage at))
  flag_by true at w is one = fits_one (Holds (held (w.storage at))) (sym (is (w.storage at)) ∙ one refl)
  flag_by false at w is one = tt

  flag_fits : (home : Home) (r : Reference) (d : DirtySet) (w u : RunState) → AllByRecursion (IsValueAt p) (variable_at home r) → Near p known d w u
      → Fits (decided_flag known home r) (variable_value home r w)
  flag_fits home (At g) d w u is n = flag_by (known (global_at home g)) (global_at home g) w is.0 (λ e. n.ones (global_at home g) e)
  flag_fits home (Local name) d w u is n = tt

-- ---- expressions

module _ (p : UnitTree) (known : Location → Bool) (stand : ObjectsStand p known) (R : MethodAt → Type 0) (home : Home) (outputs : List (List (List ℕ))) (calls : Calls) (walks : CallWalks)
    (calls_same : (m : MethodAt) → R m → (place : Place) (vs : List Value) (d : DirtySet) (w u : RunState) → Near p known d w u
    → CallAt p known (walks m place d) (calls m.home m.number vs w) (calls m.home m.number vs u)) where
  abbrev pub c : CodeScope
  c = record { home = home; objects = objects_of p home; outputs = outputs }

  abbrev pub s : Surroundings
  s = record { calls = calls; objects = objects_of p home; outputs = outputs; home = home }

  abbrev pub k : WalkScope
  k = record { code = c; calls = walks; known = known }

  near_taken : (es : TypedArguments) (vs : List Value) (d : DirtySet) (w u : RunState) → Fine p known R (argument_deeds c es) → Near p known d w u
      → Near p known d (taken_back home es vs w) (taken_back home es vs u)
  near_taken NoArgument vs d w u q n = n
  near_taken (ByValue e rest) vs d w u q n = near_taken rest vs d w u (back p known R (expression_deeds c e) (argument_deeds c rest) q) n
  near_taken (InOut r rest) [] d w u q n = n
  near_taken (InOut r rest) (v ∷ vs) d w u q n =
      near_stored p known home r v d (taken_back home rest vs w) (taken_back home rest vs u) (set_free p known R home r (front p known R (set_deeds home r) (argument_deeds c rest) q))
      (near_taken rest vs d w u (back p known R (set_deeds home r) (argument_deeds c rest) q) n)

  after_some : (es : TypedArguments) (x : DirtySet) (a b : CallEnd) → Fine p known R (argument_deeds c es) → SameCall p known x a b → SameCall p known x (after_call home es a) (after_call home es b)
  after_some es x _ _ q (answer v vs w u n) = answer v vs (taken_back home es vs w) (taken_back home es vs u) (near_taken es vs x w u q n)
  after_some es x _ _ q (break_call f w u e) = break_call f w u e

  after_same : (es : TypedArguments) (o : WalkEnd DirtySet) (a b : CallEnd) → Fine p known R (argument_deeds c es) → CallAt p known o a b → CallAt p known o (after_call home es a) (after_call home es b)
  after_same es (FailsAt at place) a b q h = tt
  after_same es (GoesOn x) a b q h = after_some es x a b q h

  mutual
    pub expression_same : (e : TypedExpression) (place : Place) (d : DirtySet) (w u : RunState) → Fine p known R (expression_deeds c e) → Near p known d w u
        → ExpressionAt p known (walk_expression k e place d) (decided known home e) (evaluate s e w) (evaluate s e u)
    expression_same (Constant v ty) place d w u q n = give v w u n tt
    expression_same (Variable r ty) place d w u q n =
        reads_alone p known place (variable_at home r) d
        (λ o. ExpressionAt p known o (decided_flag known home r) (Gives (variable_value home r w) w) (Gives (variable_value home r u) u)) (λ x y. tt)
        (λ clean. gives_same p known (decided_flag known home r) (variable_value home r w) (variable_value home r u) d w u
        (near_value p known home r d w u (mentioned p known R (variable_at home r) q) clean n) (flag_fits p known home r d w u (mentioned p known R (variable_at home r) q) n) n)
    expression_same (Widen e) place d w u q n =
        alone_same p known (walk_expression k e place d) (decided known home e) Unknown (evaluate s e w) (evaluate s e u) (λ v x. Gives (widened v) x) (λ v x. Gives (widened v) x)
        (expression_same e place d w u q n) (λ x v w u m f. give (widened v) w u m tt)
    expression_same (Convert e ty) place d w u q n =
        alone_same p known (walk_expression k e place d) (decided known home e) Unknown (evaluate s e w) (evaluate s e u) (converted ty) (converted ty)
        (expression_same e place d w u q n) (λ x v w u m f. converted_same p known ty v x w u m)
    expression_same (Prefixed prefix.IntegerNegate e ty) place d w u q n =
        alone_same p known (walk_expression k e place d) (decided known home e) Unknown (evaluate s e w) (evaluate s e u) (prefixed prefix.IntegerNegate) (prefixed prefix.IntegerNegate)
        (expression_same e place d w u q n) (λ x v w u m f. attempt_same p known x Unknown (negative_of v) w u (λ z g. tt) m)
    expression_same (Prefixed prefix.DecimalNegate e ty) place d w u q n =
        alone_same p known (walk_expression k e place d) (decided known home e) Unknown (evaluate s e w) (evaluate s e u) (prefixed prefix.DecimalNegate) (prefixed prefix.DecimalNegate)
        (expression_same e place d w u q n) (λ x v w u m f. give (of_decimal decimal.neg v) w u m tt)
    expression_same (Prefixed prefix.Plus e ty) place d w u q n =
        alone_same p known (walk_expression k e place d) (decided known home e) Unknown (evaluate s e w) (evaluate s e u) (prefixed prefix.Plus) (prefixed prefix.Plus)
        (expression_same e place d w u q n) (λ x v w u m f. give v w u m tt)
    expression_same (Prefixed prefix.Not e ty) place d w u q n =
        alone_same p known (walk_expression k e place d) (decided known home e) (not_of (decided known home e)) (evaluate s e w) (evaluate s e u) (prefixed prefix.Not) (prefixed prefix.Not)
        (expression_same e place d w u q n) (λ x v w u m f. give (truth_value (not_of (truth_of v))) w u m (fits_not (decided known home e) v f))
    expression_same (Chain first links) place d w u q n =
        operand_same p known (walk_expression k first place d) (decided known home first) (decided_links known home (decided known home first) links) (evaluate s first w) (evaluate s first u)
        (walk_links k links place) (evaluate_links s links) (evaluate_links s links) (expression_same first place d w u (front p known R (expression_deeds c first) (link_deeds c links) q) n)
        (λ x v w u m f. links_same links (decided known home first) v place x w u (back p known R (expression_deeds c first) (link_deeds c links) q) f m)
    expression_same (Compared o a b) place d w u q n =
        operand_same p known (walk_expression k a place d) (decided known home a) Unknown (evaluate s a w) (evaluate s a u)
        (walk_expression k b place) (λ y x. then_operand (evaluate s b x) (λ z v. Gives (compared_of o y z) v)) (λ y x. then_operand (evaluate s b x) (λ z v. Gives (compared_of o y z) v))
        (expression_same a place d w u (front p known R (expression_deeds c a) (expression_deeds c b) q) n)
        (λ x y w u m f. alone_same p known (walk_expression k b place x) (decided known home b) Unknown (evaluate s b w) (evaluate s b u) (λ z v. Gives (compared_of o y z) v) (λ z v. Gives (compared_of o y z) v)
        (expression_same b place x w u (back p known R (expression_deeds c a) (expression_deeds c b) q) m) (λ x2 z w u m2 g. give (compared_of o y z) w u m2 tt))
    expression_same (Applied f es ty) place d w u q n =
        all_same p known (walk_expressions k es place d) Unknown (evaluate_all s es w) (evaluate_all s es u) (applied f) (applied f) (expressions_same es place d w u q n)
        (λ x vs w u m. applied_same p known f vs x w u m)
    expression_same (Called instance m es ty) place d w u q n =
        let callee : MethodAt = record { home = callee_home home instance; number = m } in
        let own = front p known R (argument_deeds c es) (CallOf callee ∷ []) q in
        result_same p known (then_walk (walk_arguments k es place d) (walks callee place)) (call_with s instance m es (evaluate_arguments s es w)) (call_with s instance m es (evaluate_arguments s es u))
        (after_same es (then_walk (walk_arguments k es place d) (walks callee place))
        (then_call (evaluate_arguments s es w) (calls (callee_home home instance) m)) (then_call (evaluate_arguments s es u) (calls (callee_home home instance) m)) own
        (then_call_same p known (walk_arguments k es place d) (evaluate_arguments s es w) (evaluate_arguments s es u) (walks callee place) (calls (callee_home home instance) m) (calls (callee_home home instance) m)
        (arguments_same es place d w u own n) (λ x vs w u h. calls_same callee (back p known R (argument_deeds c es) (CallOf callee ∷ []) q).0 place vs x w u h)))
    expression_same (HashCalled name f) place d w u q n = hash_call_same p known stand home outputs f name (hash_named (objects_of p home).hashes name) place d w u refl n
    expression_same (IteratorCalled name f) place d w u q n = iterator_call_same p known stand home outputs f name (iterator_named (objects_of p home).iterators name) place d w u refl n

    links_same : (links : Links) (t : Truth) (y : Value) (place : Place) (d : DirtySet) (w u : RunState) → Fine p known R (link_deeds c links) → Fits t y → Near p known d w u
        → ExpressionAt p known (walk_links k links place d) (decided_links known home t links) (evaluate_links s links y w) (evaluate_links s links y u)
    links_same NoLink t y place d w u q f n = give y w u n f
    links_same (Link widens o e ty rest) t y place d w u q f n =
        let left = if widens then widened y else y in
        let truth = if widens then Unknown else t in
        operand_same p known (walk_expression k e place d) (decided known home e) (decided_links known home (decided_by o truth (decided known home e)) rest) (evaluate s e w) (evaluate s e u)
        (walk_links k rest place) (λ z x. then_operand (operated o left z x) (evaluate_links s rest)) (λ z x. then_operand (operated o left z x) (evaluate_links s rest))
        (expression_same e place d w u (front p known R (expression_deeds c e) (link_deeds c rest) q) n)
        (λ x z w u m g. operand_some p known x (decided_by o truth (decided known home e)) (decided_links known home (decided_by o truth (decided known home e)) rest) (operated o left z w) (operated o left z u)
        (walk_links k rest place x) (evaluate_links s rest) (evaluate_links s rest)
        (operated_same p known o truth (decided known home e) left z x w u (widened_fits p known widens t y f) g m)
        (λ v w u m2 h. links_same rest (decided_by o truth (decided known home e)) v place x w u (back p known R (expression_deeds c e) (link_deeds c rest) q) h m2))

    pub expressions_same : (es : TypedExpressions) (place : Place) (d : DirtySet) (w u : RunState) → Fine p known R (expressions_deeds c es) → Near p known d w u
        → ExpressionsAt p known (walk_expressions k es place d) (evaluate_all s es w) (evaluate_all s es u)
    expressions_same NoExpression place d w u q n = give_all [] w u n
    expressions_same (Then e rest) place d w u q n =
        others_same p known (walk_expression k e place d) (decided known home e) (evaluate s e w) (evaluate s e u) (walk_expressions k rest place) (evaluate_all s rest) (evaluate_all s rest)
        (expression_same e place d w u (front p known R (expression_deeds c e) (expressions_deeds c rest) q) n)
        (λ x w u m. expressions_same rest place x w u (back p known R (expression_deeds c e) (expressions_deeds c rest) q) m)

    pub arguments_same : (es : TypedArguments) (place : Place) (d : DirtySet) (w u : RunState) → Fine p known R (argument_deeds c es) → Near p known d w u
        → ExpressionsAt p known (walk_arguments k es place d) (evaluate_arguments s es w) (evaluate_arguments s es u)
    arguments_same NoArgument place d w u q n = give_all [] w u n
    arguments_same (ByValue e rest) place d w u q n =
        others_same p known (walk_expression k e place d) (decided known home e) (evaluate s e w) (evaluate s e u) (walk_arguments k rest place) (evaluate_arguments s rest) (evaluate_arguments s rest)
        (expression_same e place d w u (front p known R (expression_deeds c e) (argument_deeds c rest) q) n)
        (λ x w u m. arguments_same rest place x w u (back p known R (expression_deeds c e) (argument_deeds c rest) q) m)
    arguments_same (InOut r rest) place d w u q n =
        let own = front p known R (set_deeds home r) (argument_deeds c rest) q in
        reads_then p known DirtySet place (variable_at home r) d (walk_arguments k rest place)
        (λ o. ExpressionsAt p known o (with_one_more (variable_value home r w) (evaluate_arguments s rest w)) (with_one_more (variable_value home r u) (evaluate_arguments s rest u))) (λ x y. tt)
        (λ clean. subst (λ v. ExpressionsAt p known (walk_arguments k rest place d) (with_one_more (variable_value home r w) (evaluate_arguments s rest w)) (with_one_more v (evaluate_arguments s rest u)))
        (near_value p known home r d w u (set_is p known R home r own) clean n)
        (one_more_same p known (walk_arguments k rest place d) (variable_value home r w) (evaluate_arguments s rest w) (evaluate_arguments s rest u)
        (arguments_same rest place d w u (back p known R (set_deeds home r) (argument_deeds c rest) q) n)))

  pub call_same : (instance : Option (List ℕ)) (m : ℕ) (es : TypedArguments) (place : Place) (d : DirtySet) (w u : RunState) → Fine p known R (call_deeds c instance m es) → Near p known d w u
      → CallAt p known (walk_call k instance m es place d) (call s instance m es w) (call s instance m es u)
  call_same instance m es place d w u q n =
      let callee : MethodAt = record { home = callee_home home instance; number = m } in
      let own = front p known R (argument_deeds c es) (CallOf callee ∷ []) q in
      after_same es (then_walk (walk_arguments k es place d) (walks callee place))
      (then_call (evaluate_arguments s es w) (calls (callee_home home instance) m)) (then_call (evaluate_arguments s es u) (calls (callee_home home instance) m)) own
      (then_call_same p known (walk_arguments k es place d) (evaluate_arguments s es w) (evaluate_arguments s es u) (walks callee place) (calls (callee_home home instance) m) (calls (callee_home home instance) m)
      (arguments_same es place d w u own n) (λ x vs w u h. calls_same callee (back p known R (argument_deeds c es) (CallOf callee ∷ []) q).0 place vs x w u h))
