-- What statements leave as it was: a location that none of their deeds changes.
use Rattle.std.proofs.Common.{◌≡◌, ℕ, zero, suc, Bool, true, false, ◌&&◌, List, [], ◌∷◌, ◌++◌, map, filter, cond, bytes_eq, Option, Some, None, Result, Ok, Err, refl, sym, ap, ◌∙◌, if◌then◌else◌}
use Rattle.std.specs.List.{AllByRecursion, join_with_byte}
use Rattle.std.specs.Prelude.{slice_get, pos}
use Rattle.std.proofs.lemmas.Bool.{true≢false}
use Rattle.std.proofs.lemmas.Slice.Eq.{bytes_eq-Decides}
use Rattle.ds2_base.specs.declared.place.Place.{Place}
use Rattle.ds2_value.specs.HashList.{HashItems, Shift, Stays, Closes, Empties, shifted, with_replaced, without_item, found_item, checked_item, added_item, removed_item, iterator_answer, item_data, item_position}
use Rattle.ds2_value.specs.Operations.{is_true, widened, of_decimals, line_text}
use Rattle.ds2_value.specs.Progress.{with_step}
use Rattle.ds2_value.specs.Row.{Row}
use Rattle.ds2_value.specs.Run.{Tested}
use Rattle.ds2_value.specs.Types.{assign_of}
use Rattle.ds2_value.specs.Value.{sum_of, difference_of, product_of, negative_of, compared_of}
use Rattle.ds2_value.specs.ValueFunctions.{function_value}
use Rattle.ds2_value.specs.declared.comparison.Comparison.TheVariants.{Equal, Less, LessOrEqual, GreaterOrEqual}
use Rattle.ds2_value.specs.declared.fault.Fault.{Fault}
use Rattle.ds2_value.specs.declared.hash_function.HashFunction.{HashFunction}
use Rattle.ds2_value.specs.declared.hash_function.HashFunction.TheVariants as hash
use Rattle.ds2_value.specs.declared.hash_function.IteratorFunction.{IteratorFunction}
use Rattle.ds2_value.specs.declared.ty.Ty.{Ty}
use Rattle.ds2_value.specs.declared.ty.Ty.TheVariants.{BigInt, Decimal as DecimalOf, Char, Varchar}
use Rattle.ds2_value.specs.declared.value.Value.{Value}
use Rattle.ds2_value.specs.declared.value.Value.TheVariants.{Null, Int}
use Rattle.ds2_decimal.specs.Arithmetic as decimal
use Rattle.ds2_meaning.specs.declared.expressions.Function.{Function}
use Rattle.ds2_meaning.specs.declared.expressions.Function.TheVariants as function
use Rattle.ds2_meaning.specs.declared.expressions.Operation.{Operation}
use Rattle.ds2_meaning.specs.declared.expressions.Operation.TheVariants as operation
use Rattle.ds2_meaning.specs.declared.expressions.Prefix.{Prefix}
use Rattle.ds2_meaning.specs.declared.expressions.Prefix.TheVariants as prefix
use Rattle.ds2_meaning.specs.declared.hashes.DeclaredHash.{DeclaredHash}
use Rattle.ds2_meaning.specs.declared.hashes.DeclaredIterator.{DeclaredIterator}
use Rattle.ds2_meaning.specs.declared.hashes.HashVariable.{HashVariable}
use Rattle.ds2_meaning.specs.declared.location.Global.{Global}
use Rattle.ds2_meaning.specs.declared.location.Global.TheVariants.{Named, First, Last, Present, Parameter}
use Rattle.ds2_meaning.specs.declared.location.Reference.{Reference}
use Rattle.ds2_meaning.specs.declared.location.Reference.TheVariants.{At, Local}
use Rattle.ds2_meaning.specs.Evaluation.{Surroundings, Calls, CallEnd, Answers, CallBreaks, callee_home, with_one_more, then_others, then_all, then_call, taken_back, after_call, call_with, result_of, evaluate, evaluate_links, evaluate_all, evaluate_arguments, call}
use Rattle.ds2_meaning.specs.Execution.{labelled, dropped, step_or_one, counts_on, write_one, write_each, any_holds, any_equals, with_texts, with_step_value, rounds_counted, rounds_while, rounds_until, constructed, with_parameters_set, exec, exec_all, select, select_value}
use Rattle.ds2_meaning.specs.HashObjects.{hash_named, iterator_named, object_at, items_of, position_of, values_of_variables, with_values_stored, with_data_copied, with_iterator_shifted, with_iterators_shifted, hash_answered, call_hash, call_iterator_of, call_iterator}
use Rattle.ds2_meaning.specs.Location.{Home, Location, is_same_home, is_same_global, is_same_location, Content, Holds, Items, Position, items_held, position_held}
use Rattle.ds2_meaning.specs.ProgramTree.{UnitTree, objects_of}
use Rattle.ds2_meaning.specs.RunState.{RunState, ExpressionEnd, Gives, Breaks, then_operand, attempt, ExpressionsEnd, GiveAll, BreakAt, StatementOutcome, Proceeds, Leaves, Continues, Returns, Faults, then_value, then_statement, then_round, step_fails, step_finding, begin_step, after_test, noting, with_progress, variable_value, store, keep_at, put_line}
use Rattle.ds2_meaning.specs.TypedExpression.{TypedExpression, Constant, Variable, Widen, Convert, Prefixed, Chain, Compared, Applied, Called, HashCalled, IteratorCalled, Links, NoLink, Link, TypedExpressions, NoExpression, Then, TypedArguments, NoArgument, ByValue, InOut}
use Rattle.ds2_meaning.specs.TypedStatement.{TypedStatement, Empty, Assign, Invoke, Evaluate, SetParameters, ParameterValue, Construct, Leave, Continue, Return, ReturnValue, Output, Put, If, IfElse, Select, SelectValue, Block, Count, While, Until, TypedStatements, Finish, Next, TypedWhens, NoOtherwise, Otherwise, When, Item, Text, Shown, Labelled}
use Rattle.ds2_meaning.specs.ValueOperations.{operated, prefixed, converted, applied}
use Rattle.ds2_locality.specs.Deeds.{MethodAt, CodeScope, global_at, variable_at, variables_at, iterators_over, hash_variables_at, Deed, Mention, MentionObject, Change, CallOf, WriteAt, set_deeds, changed_by_hash, hash_deeds, walked_hash_deeds, iterator_deeds, expression_deeds, link_deeds, expressions_deeds, argument_deeds, call_deeds, constructor_deeds, parameter_deeds, item_deeds, step_deeds, statement_deeds, body_deeds, when_deeds}
use Rattle.ds2_locality.specs.KeptLocations.{seen_at}

-- ---- lists

pub all_front : {A : Type 0} (P : A → Type 0) (xs ys : List A) → AllByRecursion P (xs ++ ys) → AllByRecursion P xs
all_front P [] ys h = tt
all_front P (x ∷ xs) ys h = (h.0, all_front P xs ys h.1)

pub all_back : {A : Type 0} (P : A → Type 0) (xs ys : List A) → AllByRecursion P (xs ++ ys) → AllByRecursion P ys
all_back P [] ys h = h
all_back P (x ∷ xs) ys h = all_back P xs ys h.1

-- ---- locations

pub both : (a b : Bool) → (a && b) ≡ true → (a ≡ true) × (b ≡ true)
both true b e = (refl, e)
both false b e = absurd (true≢false (sym e))

pub home_is : (a b : Home) → is_same_home a b ≡ true → a ≡ b
home_is None None e = refl
home_is None (Some b) e = absurd (true≢false (sym e))
home_is (Some a) None e = absurd (true≢false (sym e))
home_is (Some a) (Some b) e = ap Some ((bytes_eq-Decides a b).0 e)

global_is : (a b : Global) → is_same_global a b ≡ true → a ≡ b
global_is (Named a) (Named b) e = ap Named ((bytes_eq-Decides a b).0 e)
global_is (First a) (First b) e = ap First ((bytes_eq-Decides a b).0 e)
global_is (Last a) (Last b) e = ap Last ((bytes_eq-Decides a b).0 e)
global_is (Present a) (Present b) e = ap Present ((bytes_eq-Decides a b).0 e)
global_is (Parameter a) (Parameter b) e = ap Parameter ((bytes_eq-Decides a b).0 e)
global_is _ _ e = absurd (true≢false (sym e))

pub location_is : (a b : Location) → is_same_location a b ≡ true → a ≡ b
location_is a b e =
    let parts = both (is_same_home a.home b.home) (is_same_global a.global b.global) e in
    ap (λ h. global_at h a.global) (home_is a.home b.home parts.0) ∙ ap (global_at b.home) (global_is a.global b.global parts.1)

-- ---- deeds

-- what is asked of deeds: of each variable and each object that they mention, of each location that they change, and of each method that
-- they call
abbrev pub Allowed : (W U V : Location → Type 0) → (MethodAt → Type 0) → Deed → Type 0
Allowed W U V R (Mention at) = W at
Allowed W U V R (MentionObject at) = U at
Allowed W U V R (Change at) = V at
Allowed W U V R (CallOf m) = R m
Allowed W U V R (WriteAt place) = Unit {0}

abbrev pub AreAllowed : (W U V : Location → Type 0) → (MethodAt → Type 0) → List Deed → Type 0
AreAllowed W U V R deeds = AllByRecursion (Allowed W U V R) deeds

-- nothing is asked of a location
abbrev pub Any : Location → Type 0
Any at = Unit {0}

-- hash objects and iterators that a home declares are seen as such
pub record ObjectsSeen (p : UnitTree) : Type 0 where
  pub hashes : (home : Home) (name : List ℕ) (h : DeclaredHash) → hash_named (objects_of p home).hashes name ≡ Some h → (c : Content)
      → seen_at p (object_at home h.name) c ≡ Items (items_held c)
  pub iterators : (home : Home) → AllByRecursion (λ (i : DeclaredIterator). (c : Content) → seen_at p (object_at home i.name) c ≡ Position (position_held c)) (objects_of p home).iterators

-- a location, and what it held; a method of which R is told leaves it so
module _ (p : UnitTree) (objects_seen : ObjectsSeen p) (x : Location) (old : Content) (R : MethodAt → Type 0) where
  abbrev V : Location → Type 0
  V at = is_same_location x at ≡ false

  abbrev pub Has : RunState → Type 0
  Has w = seen_at p x (w.storage x) ≡ old

  abbrev Fine : List Deed → Type 0
  Fine deeds = AreAllowed Any Any V R deeds

  abbrev front : (xs ys : List Deed) → Fine (xs ++ ys) → Fine xs
  front xs ys h = all_front (Allowed Any Any V R) xs ys h

  abbrev back : (xs ys : List Deed) → Fine (xs ++ ys) → Fine ys
  back xs ys h = all_back (Allowed Any Any V R) xs ys h

  changed : (ats : List Location) → Fine (map Change ats) → AllByRecursion V ats
  changed [] h = tt
  changed (at ∷ ats) h = (h.0, changed ats h.1)

  set_apart : (home : Home) (r : Reference) → Fine (set_deeds home r) → AllByRecursion V (variable_at home r)
  set_apart home r h = changed (variable_at home r) (back (map Mention (variable_at home r)) (map Change (variable_at home r)) h)

  abbrev pub Still : ExpressionEnd → Type 0
  Still (Gives v w) = Has w
  Still (Breaks f w) = Has w

  abbrev pub StillAll : ExpressionsEnd → Type 0
  StillAll (GiveAll vs w) = Has w
  StillAll (BreakAt f w) = Has w

  abbrev pub StillCall : CallEnd → Type 0
  StillCall (Answers v vs w) = Has w
  StillCall (CallBreaks f w) = Has w

  abbrev pub StaysSo : StatementOutcome → Type 0
  StaysSo (Proceeds w) = Has w
  StaysSo (Leaves w) = Has w
  StaysSo (Continues w) = Has w
  StaysSo (Returns v w) = Has w
  StaysSo (Faults f w) = Has w

  -- ---- stores

  -- another location is set
  apart_has : (at : Location) (c : Content) (w : RunState) → V at → Has w → Has (keep_at at c w)
  apart_has at c w e h = ap (λ (b : Bool). seen_at p x (if b then c else w.storage x)) e ∙ h

  -- a location is set to what is seen there
  same_by : (b : Bool) (at : Location) (c : Content) (w : RunState) → is_same_location x at ≡ b → seen_at p at c ≡ seen_at p at (w.storage at) → Has w
      → seen_at p x (if b then c else w.storage x) ≡ old
  same_by false at c w e f h = h
  same_by true at c w e f h =
      let is = location_is x at e in ap (λ (z : Location). seen_at p z c) is ∙ f ∙ ap (λ (z : Location). seen_at p z (w.storage z)) (sym is) ∙ h

  same_has : (at : Location) (c : Content) (w : RunState) → seen_at p at c ≡ seen_at p at (w.storage at) → Has w → Has (keep_at at c w)
  same_has at c w f h = same_by (is_same_location x at) at c w refl f h

  stored_has : (home : Home) (r : Reference) (v : Value) (w : RunState) → AllByRecursion V (variable_at home r) → Has w → Has (store home r v w)
  stored_has home (At g) v w q h = apart_has (global_at home g) (Holds v) w q.0 h
  stored_has home (Local name) v w q h = h

  values_have : (home : Home) (xs : List HashVariable) (row : Row) (w : RunState) → AllByRecursion V (variables_at home xs) → Has w → Has (with_values_stored home xs row w)
  values_have home [] row w q h = h
  values_have home (y ∷ ys) [] w q h = h
  values_have home (y ∷ ys) (v ∷ vs) w q h = values_have home ys vs (store home (At y.global) v w) q.1 (stored_has home (At y.global) v w (q.0, tt) h)

  copied_has : (home : Home) (h : DeclaredHash) (row : Option Row) (w : RunState) → AllByRecursion V (variables_at home h.data_variables) → Has w → Has (with_data_copied home h row w)
  copied_has home h None w q k = k
  copied_has home h (Some row) w q k = values_have home h.data_variables row w q k

  -- ---- iterators of a hash object

  moved_by : (b : Bool) (shift : Shift) (home : Home) (name : List ℕ) (i : DeclaredIterator) (is : List DeclaredIterator) (w : RunState)
      → AllByRecursion V (map (λ (k : DeclaredIterator). object_at home k.name) (cond b (i ∷ filter (λ (k : DeclaredIterator). bytes_eq k.hash name) is) (filter (λ (k : DeclaredIterator). bytes_eq k.hash name) is)))
      → Has w → Has (if b then keep_at (object_at home i.name) (Position (shifted shift (position_of home i.name w))) w else w) × AllByRecursion V (iterators_over home is name)
  moved_by true shift home name i is w q h = (apart_has (object_at home i.name) (Position (shifted shift (position_of home i.name w))) w q.0 h, q.1)
  moved_by false shift home name i is w q h = (h, q)

  -- iterators of this hash object stand elsewhere, and x is none of them
  moved_has : (shift : Shift) (home : Home) (name : List ℕ) (is : List DeclaredIterator) (w : RunState) → AllByRecursion V (iterators_over home is name) → Has w
      → Has (with_iterators_shifted shift home name is w)
  moved_has shift home name [] w q h = h
  moved_has shift home name (i ∷ is) w q h =
      let m = moved_by (bytes_eq i.hash name) shift home name i is w q h in moved_has shift home name is (with_iterator_shifted shift home name i w) m.1 m.0

  stood_by : (b : Bool) (home : Home) (i : DeclaredIterator) (w : RunState) → ((c : Content) → seen_at p (object_at home i.name) c ≡ Position (position_held c))
      → Has w → Has (if b then keep_at (object_at home i.name) (Position (shifted Stays (position_of home i.name w))) w else w)
  stood_by true home i w s h =
      same_has (object_at home i.name) (Position (position_of home i.name w)) w (s (Position (position_of home i.name w)) ∙ sym (s (w.storage (object_at home i.name)))) h
  stood_by false home i w s h = h

  -- iterators stand where they stood
  stood_has : (home : Home) (name : List ℕ) (is : List DeclaredIterator) (w : RunState)
      → AllByRecursion (λ (i : DeclaredIterator). (c : Content) → seen_at p (object_at home i.name) c ≡ Position (position_held c)) is → Has w
      → Has (with_iterators_shifted Stays home name is w)
  stood_has home name [] w s h = h
  stood_has home name (i ∷ is) w s h =
      stood_has home name is (with_iterator_shifted Stays home name i w) s.1 (stood_by (bytes_eq i.hash name) home i w s.0 h)

  -- ---- calls of hash objects and iterators

  module _ (home : Home) where
    abbrev iterators : List DeclaredIterator
    iterators = (objects_of p home).iterators

    -- the items are as they were, iterators stand where they stood, and the data variables are not x
    looked_up : (h : DeclaredHash) (row : Option Row) (w : RunState) → ((c : Content) → seen_at p (object_at home h.name) c ≡ Items (items_held c))
        → AllByRecursion V (variables_at home h.data_variables) → Has w
        → Has (with_data_copied home h row (with_iterators_shifted Stays home h.name iterators (keep_at (object_at home h.name) (Items (items_of home h.name w)) w)))
    looked_up h row w s q k =
        copied_has home h row (with_iterators_shifted Stays home h.name iterators (keep_at (object_at home h.name) (Items (items_of home h.name w)) w)) q
        (stood_has home h.name iterators (keep_at (object_at home h.name) (Items (items_of home h.name w)) w) (objects_seen.iterators home)
        (same_has (object_at home h.name) (Items (items_of home h.name w)) w (s (Items (items_of home h.name w)) ∙ sym (s (w.storage (object_at home h.name)))) k))

    -- likewise where no data are copied
    only_looked : (h : DeclaredHash) (w : RunState) → ((c : Content) → seen_at p (object_at home h.name) c ≡ Items (items_held c)) → Has w
        → Has (with_iterators_shifted Stays home h.name iterators (keep_at (object_at home h.name) (Items (items_of home h.name w)) w))
    only_looked h w s k =
        stood_has home h.name iterators (keep_at (object_at home h.name) (Items (items_of home h.name w)) w) (objects_seen.iterators home)
        (same_has (object_at home h.name) (Items (items_of home h.name w)) w (s (Items (items_of home h.name w)) ∙ sym (s (w.storage (object_at home h.name)))) k)

    -- the hash object has other items, which are not x
    changed_hash : (h : DeclaredHash) (shift : Shift) (items : HashItems) (w : RunState) → V (object_at home h.name) → AllByRecursion V (iterators_over home iterators h.name) → Has w
        → Has (with_iterators_shifted shift home h.name iterators (keep_at (object_at home h.name) (Items items) w))
    changed_hash h shift items w e q k =
        moved_has shift home h.name iterators (keep_at (object_at home h.name) (Items items) w) q (apart_has (object_at home h.name) (Items items) w e k)

    found_has : (h : DeclaredHash) (o : Option Row) (w : RunState) → ((c : Content) → seen_at p (object_at home h.name) c ≡ Items (items_held c))
        → AllByRecursion V (variables_at home h.data_variables) → Has w → Still (hash_answered (objects_of p home) home h (found_item o (items_of home h.name w)) w)
    found_has h None w s q k = looked_up h None w s q k
    found_has h (Some row) w s q k = looked_up h (Some row) w s q k

    checked_has : (h : DeclaredHash) (o : Option Row) (w : RunState) → ((c : Content) → seen_at p (object_at home h.name) c ≡ Items (items_held c)) → Has w
        → Still (hash_answered (objects_of p home) home h (checked_item o (items_of home h.name w)) w)
    checked_has h None w s k = only_looked h w s k
    checked_has h (Some row) w s k = only_looked h w s k

    added_has : (h : DeclaredHash) (o : Option Row) (key row : Row) (w : RunState) → V (object_at home h.name) → AllByRecursion V (iterators_over home iterators h.name) → Has w
        → Still (hash_answered (objects_of p home) home h (added_item o key row (items_of home h.name w)) w)
    added_has h None key row w e q k = changed_hash h Stays (items_of home h.name w ++ (key, row) ∷ []) w e q k
    added_has h (Some there) key row w e q k = changed_hash h Stays (items_of home h.name w) w e q k

    removed_has : (h : DeclaredHash) (o : Option ℕ) (key : Row) (w : RunState) → V (object_at home h.name) → AllByRecursion V (iterators_over home iterators h.name) → Has w
        → Still (hash_answered (objects_of p home) home h (removed_item o key (items_of home h.name w)) w)
    removed_has h None key w e q k = changed_hash h Stays (items_of home h.name w) w e q k
    removed_has h (Some j) key w e q k = changed_hash h (Closes j) (without_item key (items_of home h.name w)) w e q k

    -- a call of a hash object, by what it changes
    hash_has : (f : HashFunction) (h : DeclaredHash) (w : RunState) → ((c : Content) → seen_at p (object_at home h.name) c ≡ Items (items_held c))
        → AllByRecursion V (changed_by_hash home iterators f h) → Has w → Still (call_hash (objects_of p home) home f (Some h) w)
    hash_has hash.Find h w s q k = found_has h (item_data (values_of_variables home h.key_variables w) (items_of home h.name w)) w s q k
    hash_has hash.Check h w s q k = checked_has h (item_data (values_of_variables home h.key_variables w) (items_of home h.name w)) w s k
    hash_has hash.NumItems h w s q k = only_looked h w s k
    hash_has hash.Add h w s q k = added_has h (item_data (values_of_variables home h.key_variables w) (items_of home h.name w)) (values_of_variables home h.key_variables w) (values_of_variables home h.data_variables w) w q.0 q.1 k
    hash_has hash.Replace h w s q k =
        changed_hash h Stays (with_replaced (values_of_variables home h.key_variables w) (values_of_variables home h.data_variables w) (items_of home h.name w)) w q.0 q.1 k
    hash_has hash.Remove h w s q k = removed_has h (item_position (values_of_variables home h.key_variables w) (items_of home h.name w)) (values_of_variables home h.key_variables w) w q.0 q.1 k
    hash_has hash.Clear h w s q k = changed_hash h Empties [] w q.0 q.1 k

    hash_call_has : (outputs : List (List (List ℕ))) (f : HashFunction) (name : List ℕ) (o : Option DeclaredHash) (w : RunState) → hash_named (objects_of p home).hashes name ≡ o
        → Fine (hash_deeds (record { home = home; objects = objects_of p home; outputs = outputs }) f o) → Has w → Still (call_hash (objects_of p home) home f o w)
    hash_call_has outputs f name None w e q k = k
    hash_call_has outputs f name (Some h) w e q k =
        hash_has f h w (objects_seen.hashes home name h e) (changed (changed_by_hash home iterators f h) (back (map Mention (hash_variables_at home h)) (map Change (changed_by_hash home iterators f h)) q.1)) k

    iterator_over_has : (f : IteratorFunction) (i : DeclaredIterator) (o : Option DeclaredHash) (w : RunState) → V (object_at home i.name) → Fine (walked_hash_deeds home o) → Has w
        → Still (call_iterator_of home f i o w)
    iterator_over_has f i None w e q k = k
    iterator_over_has f i (Some h) w e q k =
        let answer = iterator_answer f (items_of home h.name w) (position_of home i.name w) in
        copied_has home h answer.copied (keep_at (object_at home i.name) (Position answer.position) w)
        (changed (variables_at home h.data_variables) (back (map Mention (hash_variables_at home h)) (map Change (variables_at home h.data_variables)) q))
        (apart_has (object_at home i.name) (Position answer.position) w e k)

    iterator_call_has : (outputs : List (List (List ℕ))) (f : IteratorFunction) (o : Option DeclaredIterator) (w : RunState)
        → Fine (iterator_deeds (record { home = home; objects = objects_of p home; outputs = outputs }) o) → Has w → Still (call_iterator (objects_of p home) home f o w)
    iterator_call_has outputs f None w q k = k
    iterator_call_has outputs f (Some i) w q k = iterator_over_has f i (hash_named (objects_of p home).hashes i.hash) w q.1.1.0 q.1.1.1 k

  -- ---- words of expressions

  operand_has : (e : ExpressionEnd) (go : Value → RunState → ExpressionEnd) → Still e → ((v : Value) (w : RunState) → Has w → Still (go v w)) → Still (then_operand e go)
  operand_has (Gives v w) go h k = k v w h
  operand_has (Breaks f w) go h k = h

  attempt_has : (r : Result Value Fault) (w : RunState) → Has w → Still (attempt r w)
  attempt_has (Ok v) w h = h
  attempt_has (Err f) w h = h

  one_more_has : (v : Value) (rest : ExpressionsEnd) → StillAll rest → StillAll (with_one_more v rest)
  one_more_has v (GiveAll vs w) h = h
  one_more_has v (BreakAt f w) h = h

  others_have : (e : ExpressionEnd) (go : RunState → ExpressionsEnd) → Still e → ((w : RunState) → Has w → StillAll (go w)) → StillAll (then_others e go)
  others_have (Gives v w) go h k = one_more_has v (go w) (k w h)
  others_have (Breaks f w) go h k = h

  all_have : (e : ExpressionsEnd) (go : List Value → RunState → ExpressionEnd) → StillAll e → ((vs : List Value) (w : RunState) → Has w → Still (go vs w)) → Still (then_all e go)
  all_have (GiveAll vs w) go h k = k vs w h
  all_have (BreakAt f w) go h k = h

  operated_has : (o : Operation) (a b : Value) (w : RunState) → Has w → Still (operated o a b w)
  operated_has operation.IntegerAdd a b w h = attempt_has (sum_of a b) w h
  operated_has operation.IntegerSubtract a b w h = attempt_has (difference_of a b) w h
  operated_has operation.IntegerMultiply a b w h = attempt_has (product_of a b) w h
  operated_has operation.DecimalAdd a b w h = attempt_has (of_decimals decimal.add a b) w h
  operated_has operation.DecimalSubtract a b w h = attempt_has (of_decimals decimal.sub a b) w h
  operated_has operation.DecimalMultiply a b w h = attempt_has (of_decimals decimal.mul a b) w h
  operated_has operation.DecimalDivide a b w h = attempt_has (of_decimals decimal.div a b) w h
  operated_has operation.Concatenate a b w h = h
  operated_has operation.And a b w h = h
  operated_has operation.Or a b w h = h

  prefixed_has : (o : Prefix) (a : Value) (w : RunState) → Has w → Still (prefixed o a w)
  prefixed_has prefix.IntegerNegate a w h = attempt_has (negative_of a) w h
  prefixed_has prefix.DecimalNegate a w h = h
  prefixed_has prefix.Plus a w h = h
  prefixed_has prefix.Not a w h = h

  converted_has : (ty : Ty) (a : Value) (w : RunState) → Has w → Still (converted ty a w)
  converted_has BigInt a w h = h
  converted_has (DecimalOf n s) a w h = attempt_has (assign_of a (DecimalOf n s)) w h
  converted_has (Char n) a w h = h
  converted_has (Varchar n) a w h = h

  applied_has : (f : Function) (vs : List Value) (w : RunState) → Has w → Still (applied f vs w)
  applied_has (function.Value f) vs w h = attempt_has (function_value f vs) w h
  applied_has function.Coalesce vs w h = h
  applied_has function.Least vs w h = h
  applied_has function.Greatest vs w h = h
  applied_has function.Unchanged vs w h = h

  -- ---- words of calls

  taken_has : (home : Home) (outputs : List (List (List ℕ))) (es : TypedArguments) (vs : List Value) (w : RunState)
      → Fine (argument_deeds (record { home = home; objects = objects_of p home; outputs = outputs }) es) → Has w → Has (taken_back home es vs w)
  taken_has home outputs NoArgument vs w q h = h
  taken_has home outputs (ByValue e rest) vs w q h =
      let c : CodeScope = record { home = home; objects = objects_of p home; outputs = outputs } in
      taken_has home outputs rest vs w (back (expression_deeds c e) (argument_deeds c rest) q) h
  taken_has home outputs (InOut r rest) [] w q h = h
  taken_has home outputs (InOut r rest) (v ∷ vs) w q h =
      let c : CodeScope = record { home = home; objects = objects_of p home; outputs = outputs } in
      stored_has home r v (taken_back home rest vs w) (set_apart home r (front (set_deeds home r) (argument_deeds c rest) q))
      (taken_has home outputs rest vs w (back (set_deeds home r) (argument_deeds c rest) q) h)

  after_call_has : (home : Home) (outputs : List (List (List ℕ))) (es : TypedArguments) (c : CallEnd)
      → Fine (argument_deeds (record { home = home; objects = objects_of p home; outputs = outputs }) es) → StillCall c → StillCall (after_call home es c)
  after_call_has home outputs es (Answers v vs w) q h = taken_has home outputs es vs w q h
  after_call_has home outputs es (CallBreaks f w) q h = h

  then_call_has : (e : ExpressionsEnd) (go : List Value → RunState → CallEnd) → StillAll e → ((vs : List Value) (w : RunState) → Has w → StillCall (go vs w)) → StillCall (then_call e go)
  then_call_has (GiveAll vs w) go h k = k vs w h
  then_call_has (BreakAt f w) go h k = h

  result_has : (c : CallEnd) → StillCall c → Still (result_of c)
  result_has (Answers v vs w) h = h
  result_has (CallBreaks f w) h = h

  dropped_has : (c : CallEnd) → StillCall c → StaysSo (dropped c)
  dropped_has (Answers v vs w) h = h
  dropped_has (CallBreaks f w) h = h

  -- ---- words of statements

  value_stays : (e : ExpressionEnd) (go : Value → RunState → StatementOutcome) → Still e → ((v : Value) (w : RunState) → Has w → StaysSo (go v w)) → StaysSo (then_value e go)
  value_stays (Gives v w) go h k = k v w h
  value_stays (Breaks f w) go h k = h

  statement_stays : (o : StatementOutcome) (go : RunState → StatementOutcome) → StaysSo o → ((w : RunState) → Has w → StaysSo (go w)) → StaysSo (then_statement o go)
  statement_stays (Proceeds w) go h k = k w h
  statement_stays (Leaves w) go h k = h
  statement_stays (Continues w) go h k = h
  statement_stays (Returns v w) go h k = h
  statement_stays (Faults f w) go h k = h

  round_stays : (o : StatementOutcome) (go : RunState → StatementOutcome) → StaysSo o → ((w : RunState) → Has w → StaysSo (go w)) → StaysSo (then_round o go)
  round_stays (Proceeds w) go h k = k w h
  round_stays (Leaves w) go h k = h
  round_stays (Continues w) go h k = k w h
  round_stays (Returns v w) go h k = h
  round_stays (Faults f w) go h k = h

  step_stays : (n : ℕ) (place : Place) (w : RunState) (go : RunState → StatementOutcome) → Has w → ((u : RunState) → Has u → StaysSo (go u)) → StaysSo (step_finding n place w go)
  step_stays zero place w go h k = h
  step_stays (suc j) place w go h k = k (with_progress (with_step place j w.progress) w) h

  begun_stays : (place : Place) (w : RunState) (go : RunState → StatementOutcome) → Has w → ((u : RunState) → Has u → StaysSo (go u)) → StaysSo (begin_step place w go)
  begun_stays place w go h k = step_stays w.progress.left place w go h k

  test_stays : (b : Bool) (w : RunState) (on off : RunState → StatementOutcome) → Has w → ((u : RunState) → Has u → StaysSo (on u)) → ((u : RunState) → Has u → StaysSo (off u))
      → StaysSo (after_test b w on off)
  test_stays true w on off h k l = k (noting (Tested true) w) h
  test_stays false w on off h k l = l (noting (Tested false) w) h

  counts_stay : (i end : Value) (step : Option Value) (w : RunState) (on off : RunState → StatementOutcome) → Has w → ((u : RunState) → Has u → StaysSo (on u))
      → ((u : RunState) → Has u → StaysSo (off u)) → StaysSo (counts_on i end step w on off)
  counts_stay i end None w on off h k l = test_stays (is_true (compared_of LessOrEqual i end)) w on off h k l
  counts_stay i end (Some c) w on off h k l =
      test_stays (is_true (compared_of GreaterOrEqual c (Int (pos 0)))) w
      (λ u. after_test (is_true (compared_of LessOrEqual i end)) u on off)
      (λ u. after_test (is_true (compared_of Less c (Int (pos 0)))) u (λ y. after_test (is_true (compared_of GreaterOrEqual i end)) y on off) off)
      h
      (λ u m. test_stays (is_true (compared_of LessOrEqual i end)) u on off m k l)
      (λ u m. test_stays (is_true (compared_of Less c (Int (pos 0)))) u (λ y. after_test (is_true (compared_of GreaterOrEqual i end)) y on off) off m
      (λ y n. test_stays (is_true (compared_of GreaterOrEqual i end)) y on off n k l) l)

  written_has : (home : Home) (o : Option (List (List ℕ))) (number : ℕ) (w : RunState) → Has w → Has (write_one home o number w)
  written_has home None number w h = h
  written_has home (Some sources) number w h = h

  pub each_written_has : (home : Home) (outputs : List (List (List ℕ))) (ns : List ℕ) (w : RunState) → Has w → Has (write_each home outputs ns w)
  each_written_has home outputs [] w h = h
  each_written_has home outputs (m ∷ ns) w h = each_written_has home outputs ns (write_one home (slice_get outputs m) m w) (written_has home (slice_get outputs m) m w h)

  -- ---- expressions and statements of a home, where calls leave x as it was

  module _ (home : Home) (outputs : List (List (List ℕ))) (calls : Calls)
      (calls_have : (m : MethodAt) → R m → (vs : List Value) (w : RunState) → Has w → StillCall (calls m.home m.number vs w)) where
    abbrev c : CodeScope
    c = record { home = home; objects = objects_of p home; outputs = outputs }

    abbrev s : Surroundings
    s = record { calls = calls; objects = objects_of p home; outputs = outputs; home = home }

    mutual
      value_has : (e : TypedExpression) (w : RunState) → Fine (expression_deeds c e) → Has w → Still (evaluate s e w)
      value_has (Constant v ty) w q h = h
      value_has (Variable r ty) w q h = h
      value_has (Widen e) w q h = operand_has (evaluate s e w) (λ v u. Gives (widened v) u) (value_has e w q h) (λ v u k. k)
      value_has (Convert e ty) w q h = operand_has (evaluate s e w) (converted ty) (value_has e w q h) (λ v u k. converted_has ty v u k)
      value_has (Prefixed o e ty) w q h = operand_has (evaluate s e w) (prefixed o) (value_has e w q h) (λ v u k. prefixed_has o v u k)
      value_has (Chain first links) w q h =
          operand_has (evaluate s first w) (evaluate_links s links) (value_has first w (front (expression_deeds c first) (link_deeds c links) q) h)
          (λ v u k. links_have links v u (back (expression_deeds c first) (link_deeds c links) q) k)
      value_has (Compared o a b) w q h =
          operand_has (evaluate s a w) (λ y u. then_operand (evaluate s b u) (λ z v. Gives (compared_of o y z) v)) (value_has a w (front (expression_deeds c a) (expression_deeds c b) q) h)
          (λ y u k. operand_has (evaluate s b u) (λ z v. Gives (compared_of o y z) v) (value_has b u (back (expression_deeds c a) (expression_deeds c b) q) k) (λ z v l. l))
      value_has (Applied f es ty) w q h = all_have (evaluate_all s es w) (applied f) (values_all_have es w q h) (λ vs u k. applied_has f vs u k)
      value_has (Called instance m es ty) w q h =
          result_has (call_with s instance m es (evaluate_arguments s es w))
          (after_call_has home outputs es (then_call (evaluate_arguments s es w) (calls (callee_home home instance) m)) (front (argument_deeds c es) (CallOf (record { home = callee_home home instance; number = m }) ∷ []) q)
          (then_call_has (evaluate_arguments s es w) (calls (callee_home home instance) m) (arguments_have es w (front (argument_deeds c es) (CallOf (record { home = callee_home home instance; number = m }) ∷ []) q) h)
          (λ vs u k. calls_have (record { home = callee_home home instance; number = m }) (back (argument_deeds c es) (CallOf (record { home = callee_home home instance; number = m }) ∷ []) q).0 vs u k)))
      value_has (HashCalled name f) w q h = hash_call_has home outputs f name (hash_named (objects_of p home).hashes name) w refl q h
      value_has (IteratorCalled name f) w q h = iterator_call_has home outputs f (iterator_named (objects_of p home).iterators name) w q h

      links_have : (links : Links) (y : Value) (w : RunState) → Fine (link_deeds c links) → Has w → Still (evaluate_links s links y w)
      links_have NoLink y w q h = h
      links_have (Link widens o e ty rest) y w q h =
          operand_has (evaluate s e w) (λ z u. then_operand (operated o (if widens then widened y else y) z u) (evaluate_links s rest)) (value_has e w (front (expression_deeds c e) (link_deeds c rest) q) h)
          (λ z u k. operand_has (operated o (if widens then widened y else y) z u) (evaluate_links s rest)
          (operated_has o (if widens then widened y else y) z u k) (λ v r l. links_have rest v r (back (expression_deeds c e) (link_deeds c rest) q) l))

      values_all_have : (es : TypedExpressions) (w : RunState) → Fine (expressions_deeds c es) → Has w → StillAll (evaluate_all s es w)
      values_all_have NoExpression w q h = h
      values_all_have (Then e rest) w q h =
          others_have (evaluate s e w) (evaluate_all s rest) (value_has e w (front (expression_deeds c e) (expressions_deeds c rest) q) h)
          (λ u k. values_all_have rest u (back (expression_deeds c e) (expressions_deeds c rest) q) k)

      arguments_have : (es : TypedArguments) (w : RunState) → Fine (argument_deeds c es) → Has w → StillAll (evaluate_arguments s es w)
      arguments_have NoArgument w q h = h
      arguments_have (ByValue e rest) w q h =
          others_have (evaluate s e w) (evaluate_arguments s rest) (value_has e w (front (expression_deeds c e) (argument_deeds c rest) q) h)
          (λ u k. arguments_have rest u (back (expression_deeds c e) (argument_deeds c rest) q) k)
      arguments_have (InOut r rest) w q h = one_more_has (variable_value home r w) (evaluate_arguments s rest w) (arguments_have rest w (back (set_deeds home r) (argument_deeds c rest) q) h)

    call_has : (instance : Option (List ℕ)) (m : ℕ) (es : TypedArguments) (w : RunState) → Fine (call_deeds c instance m es) → Has w → StillCall (call s instance m es w)
    call_has instance m es w q h =
        after_call_has home outputs es (then_call (evaluate_arguments s es w) (calls (callee_home home instance) m)) (front (argument_deeds c es) (CallOf (record { home = callee_home home instance; number = m }) ∷ []) q)
        (then_call_has (evaluate_arguments s es w) (calls (callee_home home instance) m) (arguments_have es w (front (argument_deeds c es) (CallOf (record { home = callee_home home instance; number = m }) ∷ []) q) h)
        (λ vs u k. calls_have (record { home = callee_home home instance; number = m }) (back (argument_deeds c es) (CallOf (record { home = callee_home home instance; number = m }) ∷ []) q).0 vs u k))

    holds_stay : (es : TypedExpressions) (w : RunState) (on off : RunState → StatementOutcome) → Fine (expressions_deeds c es) → Has w → ((u : RunState) → Has u → StaysSo (on u))
        → ((u : RunState) → Has u → StaysSo (off u)) → StaysSo (any_holds s es w on off)
    holds_stay NoExpression w on off q h k l = l w h
    holds_stay (Then e rest) w on off q h k l =
        value_stays (evaluate s e w) (λ v u. after_test (is_true v) u on (λ y. any_holds s rest y on off)) (value_has e w (front (expression_deeds c e) (expressions_deeds c rest) q) h)
        (λ v u m. test_stays (is_true v) u on (λ y. any_holds s rest y on off) m k (λ y n. holds_stay rest y on off (back (expression_deeds c e) (expressions_deeds c rest) q) n k l))

    equals_stay : (value : Value) (es : TypedExpressions) (w : RunState) (on off : RunState → StatementOutcome) → Fine (expressions_deeds c es) → Has w → ((u : RunState) → Has u → StaysSo (on u))
        → ((u : RunState) → Has u → StaysSo (off u)) → StaysSo (any_equals s value es w on off)
    equals_stay value NoExpression w on off q h k l = l w h
    equals_stay value (Then e rest) w on off q h k l =
        value_stays (evaluate s e w) (λ v u. after_test (is_true (compared_of Equal value v)) u on (λ y. any_equals s value rest y on off)) (value_has e w (front (expression_deeds c e) (expressions_deeds c rest) q) h)
        (λ v u m. test_stays (is_true (compared_of Equal value v)) u on (λ y. any_equals s value rest y on off) m k
        (λ y n. equals_stay value rest y on off (back (expression_deeds c e) (expressions_deeds c rest) q) n k l))

    texts_stay : (items : List Item) (w : RunState) (go : List (List ℕ) → RunState → StatementOutcome) → Fine (item_deeds c items) → Has w
        → ((ts : List (List ℕ)) (u : RunState) → Has u → StaysSo (go ts u)) → StaysSo (with_texts s items w go)
    texts_stay [] w go q h k = k [] w h
    texts_stay (Text t ∷ items) w go q h k = texts_stay items w (λ ts. go (t ∷ ts)) q h (λ ts u m. k (t ∷ ts) u m)
    texts_stay (Shown e ∷ items) w go q h k =
        value_stays (evaluate s e w) (λ v u. with_texts s items u (λ ts. go (line_text v ∷ ts))) (value_has e w (front (expression_deeds c e) (item_deeds c items) q) h)
        (λ v u m. texts_stay items u (λ ts. go (line_text v ∷ ts)) (back (expression_deeds c e) (item_deeds c items) q) m (λ ts y n. k (line_text v ∷ ts) y n))
    texts_stay (Labelled name e ∷ items) w go q h k =
        value_stays (evaluate s e w) (λ v u. with_texts s items u (λ ts. go (labelled name v ∷ ts))) (value_has e w (front (expression_deeds c e) (item_deeds c items) q) h)
        (λ v u m. texts_stay items u (λ ts. go (labelled name v ∷ ts)) (back (expression_deeds c e) (item_deeds c items) q) m (λ ts y n. k (labelled name v ∷ ts) y n))

    step_value_stays : (step : Option TypedExpression) (w : RunState) (go : Option Value → RunState → StatementOutcome) → Fine (step_deeds c step) → Has w
        → ((y : Option Value) (u : RunState) → Has u → StaysSo (go y u)) → StaysSo (with_step_value s step w go)
    step_value_stays None w go q h k = k None w h
    step_value_stays (Some e) w go q h k = value_stays (evaluate s e w) (λ v u. go (Some v) u) (value_has e w q h) (λ v u m. k (Some v) u m)

    constructed_stays : (instance : List ℕ) (m : Option ℕ) (es : TypedArguments) (w : RunState) → Fine (constructor_deeds c instance m es) → Has w → StaysSo (constructed s instance m es w)
    constructed_stays instance None es w q h = h
    constructed_stays instance (Some m) es w q h = dropped_has (call s (Some instance) m es w) (call_has (Some instance) m es w q h)

    parameters_stay : (instance : List ℕ) (ps : List ParameterValue) (w : RunState) → Fine (parameter_deeds c instance ps) → Has w → StaysSo (with_parameters_set s instance ps w)
    parameters_stay instance [] w q h = h
    parameters_stay instance (y ∷ ps) w q h =
        value_stays (evaluate s y.value w) (λ v u. with_parameters_set s instance ps (keep_at (record { home = Some instance; global = Parameter y.parameter }) (Holds v) u))
        (value_has y.value w (front (expression_deeds c y.value) (Change (global_at (Some instance) (Parameter y.parameter)) ∷ parameter_deeds c instance ps) q) h)
        (λ v u k. let r = back (expression_deeds c y.value) (Change (global_at (Some instance) (Parameter y.parameter)) ∷ parameter_deeds c instance ps) q in
        parameters_stay instance ps (keep_at (record { home = Some instance; global = Parameter y.parameter }) (Holds v) u) r.1
        (apart_has (record { home = Some instance; global = Parameter y.parameter }) (Holds v) u r.0 k))

    -- ---- loops

    abbrev Keeps : (RunState → StatementOutcome) → Type 0
    Keeps body = (w : RunState) → Has w → StaysSo (body w)

    while_keeps : (n : ℕ) (place : Place) (e : TypedExpression) (body : RunState → StatementOutcome) → Fine (expression_deeds c e) → Keeps body → Keeps (rounds_while s n place e body)
    while_keeps zero place e body q b w h = h
    while_keeps (suc n) place e body q b w h =
        begun_stays place w (λ u. then_value (evaluate s e u) (λ v y. after_test (is_true v) y (λ z. then_round (body z) (rounds_while s n place e body)) Proceeds)) h
        (λ u k. value_stays (evaluate s e u) (λ v y. after_test (is_true v) y (λ z. then_round (body z) (rounds_while s n place e body)) Proceeds) (value_has e u q k)
        (λ v y l. test_stays (is_true v) y (λ z. then_round (body z) (rounds_while s n place e body)) Proceeds l
        (λ z m. round_stays (body z) (rounds_while s n place e body) (b z m) (λ r o. while_keeps n place e body q b r o)) (λ z m. m)))

    until_keeps : (n : ℕ) (place : Place) (e : TypedExpression) (body : RunState → StatementOutcome) → Fine (expression_deeds c e) → Keeps body → Keeps (rounds_until s n place e body)
    until_keeps zero place e body q b w h = round_stays (body w) (step_fails place) (b w h) (λ u k. k)
    until_keeps (suc n) place e body q b w h =
        round_stays (body w) (λ u. begin_step place u (λ y. then_value (evaluate s e y) (λ v z. after_test (is_true v) z Proceeds (rounds_until s n place e body)))) (b w h)
        (λ u k. begun_stays place u (λ y. then_value (evaluate s e y) (λ v z. after_test (is_true v) z Proceeds (rounds_until s n place e body))) k
        (λ y l. value_stays (evaluate s e y) (λ v z. after_test (is_true v) z Proceeds (rounds_until s n place e body)) (value_has e y q l)
        (λ v z m. test_stays (is_true v) z Proceeds (rounds_until s n place e body) m (λ r o. o) (λ r o. until_keeps n place e body q b r o))))

    counted_keeps : (n : ℕ) (place : Place) (i : Reference) (end : Value) (step : Option Value) (body : RunState → StatementOutcome) → AllByRecursion V (variable_at home i) → Keeps body
        → Keeps (rounds_counted s n place i end step body)
    counted_keeps zero place i end step body q b w h =
        counts_stay (variable_value home i w) end step w (λ u. then_round (body u) (step_fails place)) Proceeds h (λ u k. round_stays (body u) (step_fails place) (b u k) (λ y l. l)) (λ u k. k)
    counted_keeps (suc n) place i end step body q b w h =
        counts_stay (variable_value home i w) end step w
        (λ u. then_round (body u) (λ y. begin_step place y (λ z. then_value (attempt (sum_of (variable_value home i z) (step_or_one step)) z) (λ v r. rounds_counted s n place i end step body (store home i v r)))))
        Proceeds h
        (λ u k. round_stays (body u) (λ y. begin_step place y (λ z. then_value (attempt (sum_of (variable_value home i z) (step_or_one step)) z) (λ v r. rounds_counted s n place i end step body (store home i v r)))) (b u k)
        (λ y l. begun_stays place y (λ z. then_value (attempt (sum_of (variable_value home i z) (step_or_one step)) z) (λ v r. rounds_counted s n place i end step body (store home i v r))) l
        (λ z m. value_stays (attempt (sum_of (variable_value home i z) (step_or_one step)) z) (λ v r. rounds_counted s n place i end step body (store home i v r))
        (attempt_has (sum_of (variable_value home i z) (step_or_one step)) z m) (λ v r o. counted_keeps n place i end step body q b (store home i v r) (stored_has home i v r q o)))))
        (λ u k. k)

    -- ---- statements

    mutual
      pub statement_keeps : (t : TypedStatement) → Fine (statement_deeds c t) → Keeps (exec s t)
      statement_keeps (Empty place) q w h = begun_stays place w Proceeds h (λ u k. k)
      statement_keeps (Assign place r e) q w h =
          begun_stays place w (λ u. then_value (evaluate s e u) (λ v y. Proceeds (store home r v y))) h
          (λ u k. value_stays (evaluate s e u) (λ v y. Proceeds (store home r v y)) (value_has e u (front (expression_deeds c e) (set_deeds home r) q) k)
          (λ v y l. stored_has home r v y (set_apart home r (back (expression_deeds c e) (set_deeds home r) q)) l))
      statement_keeps (Invoke place instance m es) q w h =
          begun_stays place w (λ u. dropped (call s instance m es u)) h (λ u k. dropped_has (call s instance m es u) (call_has instance m es u q k))
      statement_keeps (Evaluate place e) q w h =
          begun_stays place w (λ u. then_value (evaluate s e u) (λ v y. Proceeds y)) h (λ u k. value_stays (evaluate s e u) (λ v y. Proceeds y) (value_has e u q k) (λ v y l. l))
      statement_keeps (SetParameters place instance ps) q w h = begun_stays place w (with_parameters_set s instance ps) h (λ u k. parameters_stay instance ps u q k)
      statement_keeps (Construct place instance m es) q w h = begun_stays place w (constructed s instance m es) h (λ u k. constructed_stays instance m es u q k)
      statement_keeps (Leave place) q w h = begun_stays place w Leaves h (λ u k. k)
      statement_keeps (Continue place) q w h = begun_stays place w Continues h (λ u k. k)
      statement_keeps (Return place) q w h = begun_stays place w (Returns Null) h (λ u k. k)
      statement_keeps (ReturnValue place e) q w h =
          begun_stays place w (λ u. then_value (evaluate s e u) Returns) h (λ u k. value_stays (evaluate s e u) Returns (value_has e u q k) (λ v y l. l))
      statement_keeps (Output place ns) q w h =
          begun_stays place w (λ u. Proceeds (write_each home outputs ns u)) h (λ u k. each_written_has home outputs ns u k)
      statement_keeps (Put place items) q w h =
          begun_stays place w (λ u. with_texts s items u (λ texts y. Proceeds (put_line (join_with_byte 32 texts) y))) h
          (λ u k. texts_stay items u (λ texts y. Proceeds (put_line (join_with_byte 32 texts) y)) q.1 k (λ ts y l. l))
      statement_keeps (If place e on) q w h =
          begun_stays place w (λ u. then_value (evaluate s e u) (λ v y. after_test (is_true v) y (exec s on) Proceeds)) h
          (λ u k. value_stays (evaluate s e u) (λ v y. after_test (is_true v) y (exec s on) Proceeds) (value_has e u (front (expression_deeds c e) (statement_deeds c on) q) k)
          (λ v y l. test_stays (is_true v) y (exec s on) Proceeds l (λ z m. statement_keeps on (back (expression_deeds c e) (statement_deeds c on) q) z m) (λ z m. m)))
      statement_keeps (IfElse place e on off) q w h =
          let r = front (expression_deeds c e ++ statement_deeds c on) (statement_deeds c off) q in
          begun_stays place w (λ u. then_value (evaluate s e u) (λ v y. after_test (is_true v) y (exec s on) (exec s off))) h
          (λ u k. value_stays (evaluate s e u) (λ v y. after_test (is_true v) y (exec s on) (exec s off)) (value_has e u (front (expression_deeds c e) (statement_deeds c on) r) k)
          (λ v y l. test_stays (is_true v) y (exec s on) (exec s off) l (λ z m. statement_keeps on (back (expression_deeds c e) (statement_deeds c on) r) z m)
          (λ z m. statement_keeps off (back (expression_deeds c e ++ statement_deeds c on) (statement_deeds c off) q) z m)))
      statement_keeps (Select place whens) q w h = begun_stays place w (select s whens) h (λ u k. whens_keep whens q u k)
      statement_keeps (SelectValue place e whens) q w h =
          begun_stays place w (λ u. then_value (evaluate s e u) (λ v y. select_value s v whens y)) h
          (λ u k. value_stays (evaluate s e u) (λ v y. select_value s v whens y) (value_has e u (front (expression_deeds c e) (when_deeds c whens) q) k)
          (λ v y l. value_whens_keep v whens (back (expression_deeds c e) (when_deeds c whens) q) y l))
      statement_keeps (Block place body) q w h = begun_stays place w (exec_all s body) h (λ u k. body_keeps body q u k)
      statement_keeps (Count place i start end step body) q w h =
          let four = front (expression_deeds c start ++ expression_deeds c end ++ step_deeds c step ++ set_deeds home i) (body_deeds c body) q in
          let three = front (expression_deeds c start ++ expression_deeds c end ++ step_deeds c step) (set_deeds home i) four in
          let two = front (expression_deeds c start ++ expression_deeds c end) (step_deeds c step) three in
          let apart = set_apart home i (back (expression_deeds c start ++ expression_deeds c end ++ step_deeds c step) (set_deeds home i) four) in
          let last = back (expression_deeds c start ++ expression_deeds c end ++ step_deeds c step ++ set_deeds home i) (body_deeds c body) q in
          begun_stays place w (λ u. then_value (evaluate s start u) (λ a t. then_value (evaluate s end t) (λ b y. with_step_value s step y (λ d z.
          begin_step place (store home i a z) (λ r. rounds_counted s r.progress.left place i b d (exec_all s body) r))))) h
          (λ u k. value_stays (evaluate s start u) (λ a t. then_value (evaluate s end t) (λ b y. with_step_value s step y (λ d z.
          begin_step place (store home i a z) (λ r. rounds_counted s r.progress.left place i b d (exec_all s body) r)))) (value_has start u (front (expression_deeds c start) (expression_deeds c end) two) k)
          (λ a t l. value_stays (evaluate s end t) (λ b y. with_step_value s step y (λ d z.
          begin_step place (store home i a z) (λ r. rounds_counted s r.progress.left place i b d (exec_all s body) r))) (value_has end t (back (expression_deeds c start) (expression_deeds c end) two) l)
          (λ b y m. step_value_stays step y (λ d z. begin_step place (store home i a z) (λ r. rounds_counted s r.progress.left place i b d (exec_all s body) r))
          (back (expression_deeds c start ++ expression_deeds c end) (step_deeds c step) three) m
          (λ d z n. begun_stays place (store home i a z) (λ r. rounds_counted s r.progress.left place i b d (exec_all s body) r) (stored_has home i a z apart n)
          (λ r o. counted_keeps r.progress.left place i b d (exec_all s body) apart (λ z2 o2. body_keeps body last z2 o2) r o)))))
      statement_keeps (While place e body) q w h =
          begun_stays place w (λ u. rounds_while s u.progress.left place e (exec_all s body) u) h
          (λ u k. while_keeps u.progress.left place e (exec_all s body) (front (expression_deeds c e) (body_deeds c body) q) (λ z m. body_keeps body (back (expression_deeds c e) (body_deeds c body) q) z m) u k)
      statement_keeps (Until place e body) q w h =
          begun_stays place w (λ u. rounds_until s u.progress.left place e (exec_all s body) u) h
          (λ u k. until_keeps u.progress.left place e (exec_all s body) (front (expression_deeds c e) (body_deeds c body) q) (λ z m. body_keeps body (back (expression_deeds c e) (body_deeds c body) q) z m) u k)

      pub body_keeps : (t : TypedStatements) → Fine (body_deeds c t) → Keeps (exec_all s t)
      body_keeps Finish q w h = h
      body_keeps (Next first rest) q w h =
          statement_stays (exec s first w) (exec_all s rest) (statement_keeps first (front (statement_deeds c first) (body_deeds c rest) q) w h)
          (λ u k. body_keeps rest (back (statement_deeds c first) (body_deeds c rest) q) u k)

      whens_keep : (t : TypedWhens) → Fine (when_deeds c t) → Keeps (select s t)
      whens_keep NoOtherwise q w h = h
      whens_keep (Otherwise t) q w h = statement_keeps t q w h
      whens_keep (When es t rest) q w h =
          let two = front (expressions_deeds c es ++ statement_deeds c t) (when_deeds c rest) q in
          holds_stay es w (exec s t) (select s rest) (front (expressions_deeds c es) (statement_deeds c t) two) h
          (λ u k. statement_keeps t (back (expressions_deeds c es) (statement_deeds c t) two) u k)
          (λ u k. whens_keep rest (back (expressions_deeds c es ++ statement_deeds c t) (when_deeds c rest) q) u k)

      value_whens_keep : (value : Value) (t : TypedWhens) → Fine (when_deeds c t) → Keeps (select_value s value t)
      value_whens_keep value NoOtherwise q w h = h
      value_whens_keep value (Otherwise t) q w h = statement_keeps t q w h
      value_whens_keep value (When es t rest) q w h =
          let two = front (expressions_deeds c es ++ statement_deeds c t) (when_deeds c rest) q in
          equals_stay value es w (exec s t) (select_value s value rest) (front (expressions_deeds c es) (statement_deeds c t) two) h
          (λ u k. statement_keeps t (back (expressions_deeds c es) (statement_deeds c t) two) u k)
          (λ u k. value_whens_keep value rest (back (expressions_deeds c es ++ statement_deeds c t) (when_deeds c rest) q) u k)
