-- A walk with less dirty and more flags known fails only where the other one does, and leaves less dirty: so the rules that hold at a grain
-- hold at each coarser one.
use Rattle.std.proofs.Common.{◌≡◌, ℕ, zero, suc, ◌-◌, ◌≤◌, Bool, true, false, List, [], ◌∷◌, length, take, drop, bytes_eq, slice_get, Option, Some, None, refl, sym, ap, ◌∙◌, subst, arith, if◌then◌else◌}
use Rattle.std.specs.List.{range_with_len}
use Rattle.std.proofs.lemmas.Bool.{true≢false}
use Rattle.ds2_base.specs.declared.place.Place.{Place}
use Rattle.ds2_value.specs.Value.{and_of, or_of, not_of}
use Rattle.ds2_value.specs.declared.hash_function.HashFunction.{HashFunction}
use Rattle.ds2_value.specs.declared.truth.Truth.{Truth}
use Rattle.ds2_value.specs.declared.truth.Truth.TheVariants.{Yes, No, Unknown}
use Rattle.ds2_meaning.specs.declared.expressions.Operation.{Operation}
use Rattle.ds2_meaning.specs.declared.expressions.Operation.TheVariants as operation
use Rattle.ds2_meaning.specs.declared.expressions.Prefix.TheVariants as prefix
use Rattle.ds2_meaning.specs.declared.hashes.DeclaredHash.{DeclaredHash}
use Rattle.ds2_meaning.specs.declared.hashes.DeclaredIterator.{DeclaredIterator}
use Rattle.ds2_meaning.specs.declared.location.Global.{Global}
use Rattle.ds2_meaning.specs.declared.location.Global.TheVariants.{Named, First, Last, Present, Parameter}
use Rattle.ds2_meaning.specs.declared.location.Reference.TheVariants as reference
use Rattle.ds2_meaning.specs.declared.readings.ByVariable.{ByVariable}
use Rattle.ds2_meaning.specs.Evaluation.{callee_home}
use Rattle.ds2_meaning.specs.HashObjects.{hash_named, iterator_named, object_at}
use Rattle.ds2_meaning.specs.IsTyped.{is_by}
use Rattle.ds2_meaning.specs.Location.{Home, Location, is_same_location}
use Rattle.ds2_meaning.specs.Method.{MethodTree}
use Rattle.ds2_meaning.specs.ProgramTree.{methods_of, program_has_output}
use Rattle.ds2_meaning.specs.Reading.{bys_of}
use Rattle.ds2_meaning.specs.TypedExpression.{TypedExpression, Constant, Variable, Widen, Convert, Prefixed, Chain, Compared, Applied, Called, HashCalled, IteratorCalled, Links, NoLink, Link, TypedExpressions, NoExpression, Then, TypedArguments, NoArgument, ByValue, InOut}
use Rattle.ds2_meaning.specs.TypedStatement.{TypedStatement, Empty, Assign, Invoke, Evaluate, SetParameters, ParameterValue, Construct, Leave, Continue, Return, ReturnValue, Output, Put, If, IfElse, Select, SelectValue, Block, Count, While, Until, TypedStatements, Finish, Next, TypedWhens, NoOtherwise, Otherwise, When, Item, Text, Shown, Labelled}
use Rattle.ds2_locality.specs.Deeds.{MethodAt, CodeScope, system_scope, method_scope, global_at, variable_at, columns_written, number_of_methods}
use Rattle.ds2_locality.specs.KeptLocations.{bys_before, bys_from, is_flag_of_by, is_first_of_by, is_flag_before}
use Rattle.ds2_locality.specs.Verdict.{JudgedThread, is_on_cycle, read_on_cycle, past_body, walk_body, walk_method, is_cell, past_run, walk_run, known_first, first_walk, second_walk, ground_of_walk, CoarserHolds}
use Rattle.ds2_locality.specs.Walk.{DirtySet, nothing_dirty, no_flag, united, cleaned, all_cleaned, WalkEnd, FailsAt, GoesOn, then_walk, read_locations, WaysOut, no_way, way_on, ways_past, past_loop, past_last_test, at_end, decided_by, decided, decided_links, both_ways, by_condition, TestsEnd, past_test, read_by_hash, cleaned_by_hash, walk_hash_call, walk_iterator_call, CallWalks, WalkScope, walk_expression, walk_links, walk_expressions, walk_arguments, walk_call, walk_constructor, walk_values, walk_items, walk_step, walk_tests, walk, walk_all, walk_whens}
use Rattle.ds2_locality.proofs.Near.{Below, left_clean, right_clean, both_clean}

-- ---- what is less

-- the second walk goes on where the first one does, with less that is dirty
abbrev LessAt : WalkEnd DirtySet → WalkEnd DirtySet → Type 0
LessAt (FailsAt at place) o = Unit {0}
LessAt (GoesOn x) (FailsAt at place) = ⊥
LessAt (GoesOn x) (GoesOn y) = Below y x

abbrev LessOut : WaysOut → WaysOut → Type 0
LessOut x y = Below y.onward x.onward × Below y.leaves x.leaves × Below y.continues x.continues × Below y.returns x.returns

abbrev WaysLess : WalkEnd WaysOut → WalkEnd WaysOut → Type 0
WaysLess (FailsAt at place) o = Unit {0}
WaysLess (GoesOn x) (FailsAt at place) = ⊥
WaysLess (GoesOn x) (GoesOn y) = LessOut x y

abbrev LessTested : TestsEnd → TestsEnd → Type 0
LessTested x y = Below y.holding x.holding × Below y.failing x.failing

abbrev TestsLess : WalkEnd TestsEnd → WalkEnd TestsEnd → Type 0
TestsLess (FailsAt at place) o = Unit {0}
TestsLess (GoesOn x) (FailsAt at place) = ⊥
TestsLess (GoesOn x) (GoesOn y) = LessTested x y

none_less : Below nothing_dirty nothing_dirty
none_less at e = refl

united_less : (x y u v : DirtySet) → Below y x → Below v u → Below (united y v) (united x u)
united_less x y u v f g at e = both_clean (y at) (v at) (f at (left_clean (x at) (u at) e)) (g at (right_clean (x at) (u at) e))

clean_by : (b c d : Bool) → (d ≡ false → c ≡ false) → (if b then false else d) ≡ false → (if b then false else c) ≡ false
clean_by true c d f e = refl
clean_by false c d f e = f e

cleaned_less : (at : Location) (x y : DirtySet) → Below y x → Below (cleaned at y) (cleaned at x)
cleaned_less at x y f other e = clean_by (is_same_location other at) (y other) (x other) (f other) e

all_cleaned_less : (ats : List Location) (x y : DirtySet) → Below y x → Below (all_cleaned ats y) (all_cleaned ats x)
all_cleaned_less [] x y f = f
all_cleaned_less (at ∷ ats) x y f = all_cleaned_less ats (cleaned at x) (cleaned at y) (cleaned_less at x y f)

-- ---- one walk after another

then_less : (o q : WalkEnd DirtySet) (f g : DirtySet → WalkEnd DirtySet) → LessAt o q → ((x y : DirtySet) → Below y x → LessAt (f x) (g y)) → LessAt (then_walk o f) (then_walk q g)
then_less (FailsAt at place) q f g h k = tt
then_less (GoesOn x) (FailsAt at place) f g h k = absurd h
then_less (GoesOn x) (GoesOn y) f g h k = k x y h

then_ways : (o q : WalkEnd DirtySet) (f g : DirtySet → WalkEnd WaysOut) → LessAt o q → ((x y : DirtySet) → Below y x → WaysLess (f x) (g y)) → WaysLess (then_walk o f) (then_walk q g)
then_ways (FailsAt at place) q f g h k = tt
then_ways (GoesOn x) (FailsAt at place) f g h k = absurd h
then_ways (GoesOn x) (GoesOn y) f g h k = k x y h

then_tests : (o q : WalkEnd DirtySet) (f g : DirtySet → WalkEnd TestsEnd) → LessAt o q → ((x y : DirtySet) → Below y x → TestsLess (f x) (g y)) → TestsLess (then_walk o f) (then_walk q g)
then_tests (FailsAt at place) q f g h k = tt
then_tests (GoesOn x) (FailsAt at place) f g h k = absurd h
then_tests (GoesOn x) (GoesOn y) f g h k = k x y h

tests_then : (o q : WalkEnd TestsEnd) (f g : TestsEnd → WalkEnd WaysOut) → TestsLess o q → ((x y : TestsEnd) → Below y.holding x.holding → Below y.failing x.failing → WaysLess (f x) (g y))
    → WaysLess (then_walk o f) (then_walk q g)
tests_then (FailsAt at place) q f g h k = tt
tests_then (GoesOn x) (FailsAt at place) f g h k = absurd h
tests_then (GoesOn x) (GoesOn y) f g h k = k x y h.0 h.1

ways_then : (o q : WalkEnd WaysOut) (f g : WaysOut → WalkEnd WaysOut) → WaysLess o q → ((x y : WaysOut) → LessOut x y → WaysLess (f x) (g y)) → WaysLess (then_walk o f) (then_walk q g)
ways_then (FailsAt at place) q f g h k = tt
ways_then (GoesOn x) (FailsAt at place) f g h k = absurd h
ways_then (GoesOn x) (GoesOn y) f g h k = k x y h

ways_end : (o q : WalkEnd WaysOut) (f g : WaysOut → WalkEnd DirtySet) → WaysLess o q → ((x y : WaysOut) → LessOut x y → LessAt (f x) (g y)) → LessAt (then_walk o f) (then_walk q g)
ways_end (FailsAt at place) q f g h k = tt
ways_end (GoesOn x) (FailsAt at place) f g h k = absurd h
ways_end (GoesOn x) (GoesOn y) f g h k = k x y h

way_less : (x y : DirtySet) → Below y x → WaysLess (GoesOn (way_on x)) (GoesOn (way_on y))
way_less x y b = (b, none_less, none_less, none_less)

end_less : (x y : WaysOut) → LessOut x y → Below (at_end y) (at_end x)
end_less x y h =
    united_less x.onward y.onward (united x.returns (united x.leaves x.continues)) (united y.returns (united y.leaves y.continues)) h.0
    (united_less x.returns y.returns (united x.leaves x.continues) (united y.leaves y.continues) h.3 (united_less x.leaves y.leaves x.continues y.continues h.1 h.2))

-- ---- ways that meet

left_way : (o p r : WalkEnd WaysOut) → WaysLess o r → WaysLess (both_ways o p) r
left_way (FailsAt at place) p r h = tt
left_way (GoesOn x) (FailsAt at place) r h = tt
left_way (GoesOn x) (GoesOn y) (FailsAt at place) h = absurd h
left_way (GoesOn x) (GoesOn y) (GoesOn z) h = (
  λ at e. h.0 at (left_clean (x.onward at) (y.onward at) e),
  λ at e. h.1 at (left_clean (x.leaves at) (y.leaves at) e),
  λ at e. h.2 at (left_clean (x.continues at) (y.continues at) e),
  λ at e. h.3 at (left_clean (x.returns at) (y.returns at) e),
)

right_way : (o p r : WalkEnd WaysOut) → WaysLess p r → WaysLess (both_ways o p) r
right_way (FailsAt at place) p r h = tt
right_way (GoesOn x) (FailsAt at place) r h = tt
right_way (GoesOn x) (GoesOn y) (FailsAt at place) h = absurd h
right_way (GoesOn x) (GoesOn y) (GoesOn z) h = (
  λ at e. h.0 at (right_clean (x.onward at) (y.onward at) e),
  λ at e. h.1 at (right_clean (x.leaves at) (y.leaves at) e),
  λ at e. h.2 at (right_clean (x.continues at) (y.continues at) e),
  λ at e. h.3 at (right_clean (x.returns at) (y.returns at) e),
)

both_less : (o p r q : WalkEnd WaysOut) → WaysLess o r → WaysLess p q → WaysLess (both_ways o p) (both_ways r q)
both_less (FailsAt at place) p r q h k = tt
both_less (GoesOn x) (FailsAt at place) r q h k = tt
both_less (GoesOn x) (GoesOn y) (FailsAt at place) q h k = absurd h
both_less (GoesOn x) (GoesOn y) (GoesOn z) (FailsAt at place) h k = absurd k
both_less (GoesOn x) (GoesOn y) (GoesOn z) (GoesOn u) h k = (
  united_less x.onward z.onward y.onward u.onward h.0 k.0,
  united_less x.leaves z.leaves y.leaves u.leaves h.1 k.1,
  united_less x.continues z.continues y.continues u.continues h.2 k.2,
  united_less x.returns z.returns y.returns u.returns h.3 k.3,
)

-- ---- decided conditions

-- what is decided with fewer flags known is decided so with more
abbrev Info : Truth → Truth → Type 0
Info Yes t = t ≡ Yes
Info No t = t ≡ No
Info Unknown t = Unit {0}

info_not : (t q : Truth) → Info t q → Info (not_of t) (not_of q)
info_not Yes q h = ap not_of h
info_not No q h = ap not_of h
info_not Unknown q h = tt

and_no : (t : Truth) → and_of t No ≡ No
and_no Yes = refl
and_no No = refl
and_no Unknown = refl

or_yes : (t : Truth) → or_of t Yes ≡ Yes
or_yes Yes = refl
or_yes No = refl
or_yes Unknown = refl

info_and : (t u q v : Truth) → Info t q → Info u v → Info (and_of t u) (and_of q v)
info_and No u q v h k = ap (λ z. and_of z v) h
info_and Unknown No q v h k = ap (λ z. and_of q z) k ∙ and_no q
info_and Unknown Yes q v h k = tt
info_and Unknown Unknown q v h k = tt
info_and Yes Yes q v h k = ap (λ z. and_of z v) h ∙ k
info_and Yes No q v h k = ap (λ z. and_of z v) h ∙ k
info_and Yes Unknown q v h k = tt

info_or : (t u q v : Truth) → Info t q → Info u v → Info (or_of t u) (or_of q v)
info_or Yes u q v h k = ap (λ z. or_of z v) h
info_or Unknown Yes q v h k = ap (λ z. or_of q z) k ∙ or_yes q
info_or Unknown No q v h k = tt
info_or Unknown Unknown q v h k = tt
info_or No Yes q v h k = ap (λ z. or_of z v) h ∙ k
info_or No No q v h k = ap (λ z. or_of z v) h ∙ k
info_or No Unknown q v h k = tt

info_by : (o : Operation) (t u q v : Truth) → Info t q → Info u v → Info (decided_by o t u) (decided_by o q v)
info_by operation.IntegerAdd t u q v h k = tt
info_by operation.IntegerSubtract t u q v h k = tt
info_by operation.IntegerMultiply t u q v h k = tt
info_by operation.DecimalAdd t u q v h k = tt
info_by operation.DecimalSubtract t u q v h k = tt
info_by operation.DecimalMultiply t u q v h k = tt
info_by operation.DecimalDivide t u q v h k = tt
info_by operation.Concatenate t u q v h k = tt
info_by operation.And t u q v h k = info_and t u q v h k
info_by operation.Or t u q v h k = info_or t u q v h k

info_widened : (b : Bool) (t q : Truth) → Info t q → Info (if b then Unknown else t) (if b then Unknown else q)
info_widened true t q h = tt
info_widened false t q h = h

info_flag : (b c : Bool) → (b ≡ true → c ≡ true) → Info (if b then Yes else Unknown) (if c then Yes else Unknown)
info_flag true true f = refl
info_flag true false f = absurd (true≢false (sym (f refl)))
info_flag false c f = tt

module _ (fewer more : Location → Bool) (known_more : (at : Location) → fewer at ≡ true → more at ≡ true) (home : Home) where
  mutual
    info_of : (e : TypedExpression) → Info (decided fewer home e) (decided more home e)
    info_of (Constant v ty) = tt
    info_of (Variable (reference.At g) ty) = info_flag (fewer (global_at home g)) (more (global_at home g)) (known_more (global_at home g))
    info_of (Variable (reference.Local name) ty) = tt
    info_of (Widen e) = tt
    info_of (Convert e ty) = tt
    info_of (Prefixed prefix.IntegerNegate e ty) = tt
    info_of (Prefixed prefix.DecimalNegate e ty) = tt
    info_of (Prefixed prefix.Plus e ty) = tt
    info_of (Prefixed prefix.Not e ty) = info_not (decided fewer home e) (decided more home e) (info_of e)
    info_of (Chain first links) = info_links links (decided fewer home first) (decided more home first) (info_of first)
    info_of (Compared o left right) = tt
    info_of (Applied f es ty) = tt
    info_of (Called instance m es ty) = tt
    info_of (HashCalled name f) = tt
    info_of (IteratorCalled name f) = tt

    info_links : (links : Links) (t q : Truth) → Info t q → Info (decided_links fewer home t links) (decided_links more home q links)
    info_links NoLink t q h = h
    info_links (Link widens o e ty rest) t q h =
        info_links rest (decided_by o (if widens then Unknown else t) (decided fewer home e)) (decided_by o (if widens then Unknown else q) (decided more home e))
        (info_by o (if widens then Unknown else t) (decided fewer home e) (if widens then Unknown else q) (decided more home e) (info_widened widens t q h) (info_of e))

condition_less : (t q : Truth) (on off on' off' : WalkEnd WaysOut) → Info t q → WaysLess on on' → WaysLess off off' → WaysLess (by_condition t on off) (by_condition q on' off')
condition_less Yes q on off on' off' i h k = subst (λ z. WaysLess on (by_condition z on' off')) (sym i) h
condition_less No q on off on' off' i h k = subst (λ z. WaysLess off (by_condition z on' off')) (sym i) k
condition_less Unknown Yes on off on' off' i h k = left_way on off on' h
condition_less Unknown No on off on' off' i h k = right_way on off off' k
condition_less Unknown Unknown on off on' off' i h k = both_less on off on' off' h k

-- ---- tests of a `when`

abbrev with_holding : DirtySet → TestsEnd → WalkEnd TestsEnd
with_holding x z = GoesOn (record { holding = united x z.holding; failing = z.failing })

holding_alone : (x y : DirtySet) (o : WalkEnd TestsEnd) → Below y x → TestsLess (then_walk o (with_holding x)) (GoesOn (record { holding = y; failing = nothing_dirty }))
holding_alone x y (FailsAt at place) b = tt
holding_alone x y (GoesOn z) b = (λ at e. b at (left_clean (x at) (z.holding at) e), λ at e. refl)

holding_none : (x : DirtySet) (o r : WalkEnd TestsEnd) → TestsLess o r → TestsLess (then_walk o (with_holding x)) r
holding_none x (FailsAt at place) r h = tt
holding_none x (GoesOn z) (FailsAt at place) h = absurd h
holding_none x (GoesOn z) (GoesOn u) h = (λ at e. h.0 at (right_clean (x at) (z.holding at) e), h.1)

holding_both : (x y : DirtySet) (o r : WalkEnd TestsEnd) → Below y x → TestsLess o r → TestsLess (then_walk o (with_holding x)) (then_walk r (with_holding y))
holding_both x y (FailsAt at place) r b h = tt
holding_both x y (GoesOn z) (FailsAt at place) b h = absurd h
holding_both x y (GoesOn z) (GoesOn u) b h = (united_less x y z.holding u.holding b h.0, h.1)

test_less : (t q : Truth) (x y : DirtySet) (f g : DirtySet → WalkEnd TestsEnd) → Info t q → Below y x → TestsLess (f x) (g y) → TestsLess (past_test t x f) (past_test q y g)
test_less Yes q x y f g i b h = subst (λ z. TestsLess (GoesOn (record { holding = x; failing = nothing_dirty })) (past_test z y g)) (sym i) (b, none_less)
test_less No q x y f g i b h = subst (λ z. TestsLess (f x) (past_test z y g)) (sym i) h
test_less Unknown Yes x y f g i b h = holding_alone x y (f x) b
test_less Unknown No x y f g i b h = holding_none x (f x) (g y) h
test_less Unknown Unknown x y f g i b h = holding_both x y (f x) (g y) b h

-- ---- reads

reads_by : (b c : Bool) (place : Place) (at : Location) (more : List Location) (x y : DirtySet) → (b ≡ false → c ≡ false) → LessAt (read_locations place more x) (read_locations place more y)
    → LessAt (then_walk (if b then FailsAt at place else GoesOn x) (read_locations place more)) (then_walk (if c then FailsAt at place else GoesOn y) (read_locations place more))
reads_by true c place at more x y f h = tt
reads_by false true place at more x y f h = absurd (true≢false (f refl))
reads_by false false place at more x y f h = h

reads_less : (place : Place) (ats : List Location) (x y : DirtySet) → Below y x → LessAt (read_locations place ats x) (read_locations place ats y)
reads_less place [] x y b = b
reads_less place (at ∷ more) x y b = reads_by (x at) (y at) place at more x y (b at) (reads_less place more x y b)

-- ---- two walks over the same code

module _ (code : CodeScope) (calls calls' : CallWalks) (fewer more : Location → Bool)
    (calls_less : (m : MethodAt) (place : Place) (x y : DirtySet) → Below y x → LessAt (calls m place x) (calls' m place y)) (known_more : (at : Location) → fewer at ≡ true → more at ≡ true) where
  abbrev s : WalkScope
  s = record { code = code; calls = calls; known = fewer }

  abbrev z : WalkScope
  z = record { code = code; calls = calls'; known = more }

  hash_less : (f : HashFunction) (o : Option DeclaredHash) (place : Place) (x y : DirtySet) → Below y x → LessAt (walk_hash_call code f o place x) (walk_hash_call code f o place y)
  hash_less f None place x y b = b
  hash_less f (Some h) place x y b =
      then_less (read_locations place (read_by_hash code.home f h) x) (read_locations place (read_by_hash code.home f h) y)
      (λ d. GoesOn (all_cleaned (cleaned_by_hash code.home code.objects.iterators f h) d)) (λ d. GoesOn (all_cleaned (cleaned_by_hash code.home code.objects.iterators f h) d))
      (reads_less place (read_by_hash code.home f h) x y b) (λ u v c. all_cleaned_less (cleaned_by_hash code.home code.objects.iterators f h) u v c)

  iterator_less : (o : Option DeclaredIterator) (place : Place) (x y : DirtySet) → Below y x → LessAt (walk_iterator_call code o place x) (walk_iterator_call code o place y)
  iterator_less None place x y b = b
  iterator_less (Some i) place x y b = reads_less place (object_at code.home i.name ∷ object_at code.home i.hash ∷ []) x y b

  mutual
    expression_less : (e : TypedExpression) (place : Place) (x y : DirtySet) → Below y x → LessAt (walk_expression s e place x) (walk_expression z e place y)
    expression_less (Constant v ty) place x y b = b
    expression_less (Variable r ty) place x y b = reads_less place (variable_at code.home r) x y b
    expression_less (Widen e) place x y b = expression_less e place x y b
    expression_less (Convert e ty) place x y b = expression_less e place x y b
    expression_less (Prefixed o e ty) place x y b = expression_less e place x y b
    expression_less (Chain first links) place x y b =
        then_less (walk_expression s first place x) (walk_expression z first place y) (walk_links s links place) (walk_links z links place) (expression_less first place x y b) (λ u v c. links_less links place u v c)
    expression_less (Compared o left right) place x y b =
        then_less (walk_expression s left place x) (walk_expression z left place y) (walk_expression s right place) (walk_expression z right place) (expression_less left place x y b)
        (λ u v c. expression_less right place u v c)
    expression_less (Applied f es ty) place x y b = expressions_less es place x y b
    expression_less (Called instance m es ty) place x y b =
        let callee : MethodAt = record { home = callee_home code.home instance; number = m } in
        then_less (walk_arguments s es place x) (walk_arguments z es place y) (calls callee place) (calls' callee place) (arguments_less es place x y b) (λ u v c. calls_less callee place u v c)
    expression_less (HashCalled name f) place x y b = hash_less f (hash_named code.objects.hashes name) place x y b
    expression_less (IteratorCalled name f) place x y b = iterator_less (iterator_named code.objects.iterators name) place x y b

    links_less : (links : Links) (place : Place) (x y : DirtySet) → Below y x → LessAt (walk_links s links place x) (walk_links z links place y)
    links_less NoLink place x y b = b
    links_less (Link widens o e ty rest) place x y b =
        then_less (walk_expression s e place x) (walk_expression z e place y) (walk_links s rest place) (walk_links z rest place) (expression_less e place x y b) (λ u v c. links_less rest place u v c)

    expressions_less : (es : TypedExpressions) (place : Place) (x y : DirtySet) → Below y x → LessAt (walk_expressions s es place x) (walk_expressions z es place y)
    expressions_less NoExpression place x y b = b
    expressions_less (Then e rest) place x y b =
        then_less (walk_expression s e place x) (walk_expression z e place y) (walk_expressions s rest place) (walk_expressions z rest place) (expression_less e place x y b)
        (λ u v c. expressions_less rest place u v c)

    arguments_less : (es : TypedArguments) (place : Place) (x y : DirtySet) → Below y x → LessAt (walk_arguments s es place x) (walk_arguments z es place y)
    arguments_less NoArgument place x y b = b
    arguments_less (ByValue e rest) place x y b =
        then_less (walk_expression s e place x) (walk_expression z e place y) (walk_arguments s rest place) (walk_arguments z rest place) (expression_less e place x y b)
        (λ u v c. arguments_less rest place u v c)
    arguments_less (InOut r rest) place x y b =
        then_less (read_locations place (variable_at code.home r) x) (read_locations place (variable_at code.home r) y) (walk_arguments s rest place) (walk_arguments z rest place)
        (reads_less place (variable_at code.home r) x y b) (λ u v c. arguments_less rest place u v c)

  call_less : (instance : Option (List ℕ)) (m : ℕ) (es : TypedArguments) (place : Place) (x y : DirtySet) → Below y x → LessAt (walk_call s instance m es place x) (walk_call z instance m es place y)
  call_less instance m es place x y b =
      let callee : MethodAt = record { home = callee_home code.home instance; number = m } in
      then_less (walk_arguments s es place x) (walk_arguments z es place y) (calls callee place) (calls' callee place) (arguments_less es place x y b) (λ u v c. calls_less callee place u v c)

  constructor_less : (instance : List ℕ) (m : Option ℕ) (es : TypedArguments) (place : Place) (x y : DirtySet) → Below y x
      → LessAt (walk_constructor s instance m es place x) (walk_constructor z instance m es place y)
  constructor_less instance None es place x y b = b
  constructor_less instance (Some m) es place x y b = call_less (Some instance) m es place x y b

  values_less : (ps : List ParameterValue) (place : Place) (x y : DirtySet) → Below y x → LessAt (walk_values s ps place x) (walk_values z ps place y)
  values_less [] place x y b = b
  values_less (q ∷ ps) place x y b =
      then_less (walk_expression s q.value place x) (walk_expression z q.value place y) (walk_values s ps place) (walk_values z ps place) (expression_less q.value place x y b)
      (λ u v c. values_less ps place u v c)

  items_less : (items : List Item) (place : Place) (x y : DirtySet) → Below y x → LessAt (walk_items s items place x) (walk_items z items place y)
  items_less [] place x y b = b
  items_less (Text t ∷ items) place x y b = items_less items place x y b
  items_less (Shown e ∷ items) place x y b =
      then_less (walk_expression s e place x) (walk_expression z e place y) (walk_items s items place) (walk_items z items place) (expression_less e place x y b) (λ u v c. items_less items place u v c)
  items_less (Labelled name e ∷ items) place x y b =
      then_less (walk_expression s e place x) (walk_expression z e place y) (walk_items s items place) (walk_items z items place) (expression_less e place x y b) (λ u v c. items_less items place u v c)

  step_less : (step : Option TypedExpression) (place : Place) (x y : DirtySet) → Below y x → LessAt (walk_step s step place x) (walk_step z step place y)
  step_less None place x y b = b
  step_less (Some e) place x y b = expression_less e place x y b

  tests_less : (f g : Location → Bool) → ((at : Location) → f at ≡ true → g at ≡ true) → (es : TypedExpressions) (place : Place) (x y : DirtySet) → Below y x
      → TestsLess (walk_tests s f es place x) (walk_tests z g es place y)
  tests_less f g m NoExpression place x y b = (none_less, b)
  tests_less f g m (Then e rest) place x y b =
      then_tests (walk_expression s e place x) (walk_expression z e place y) (λ d. past_test (decided f code.home e) d (walk_tests s f rest place)) (λ d. past_test (decided g code.home e) d (walk_tests z g rest place))
      (expression_less e place x y b)
      (λ u v c. test_less (decided f code.home e) (decided g code.home e) u v (walk_tests s f rest place) (walk_tests z g rest place) (info_of f g m code.home e) c (tests_less f g m rest place u v c))

  mutual
    statement_less : (t : TypedStatement) (x y : DirtySet) → Below y x → WaysLess (walk s t x) (walk z t y)
    statement_less (Empty place) x y b = way_less x y b
    statement_less (Assign place r e) x y b =
        then_ways (walk_expression s e place x) (walk_expression z e place y) (λ d. GoesOn (way_on (all_cleaned (variable_at code.home r) d))) (λ d. GoesOn (way_on (all_cleaned (variable_at code.home r) d)))
        (expression_less e place x y b)
        (λ u v c. way_less (all_cleaned (variable_at code.home r) u) (all_cleaned (variable_at code.home r) v) (all_cleaned_less (variable_at code.home r) u v c))
    statement_less (Invoke place instance m es) x y b =
        then_ways (walk_call s instance m es place x) (walk_call z instance m es place y) (λ d. GoesOn (way_on d)) (λ d. GoesOn (way_on d)) (call_less instance m es place x y b) way_less
    statement_less (Evaluate place e) x y b =
        then_ways (walk_expression s e place x) (walk_expression z e place y) (λ d. GoesOn (way_on d)) (λ d. GoesOn (way_on d)) (expression_less e place x y b) way_less
    statement_less (SetParameters place instance ps) x y b =
        then_ways (walk_values s ps place x) (walk_values z ps place y) (λ d. GoesOn (way_on d)) (λ d. GoesOn (way_on d)) (values_less ps place x y b) way_less
    statement_less (Construct place instance m es) x y b =
        then_ways (walk_constructor s instance m es place x) (walk_constructor z instance m es place y) (λ d. GoesOn (way_on d)) (λ d. GoesOn (way_on d)) (constructor_less instance m es place x y b) way_less
    statement_less (Leave place) x y b = (none_less, b, none_less, none_less)
    statement_less (Continue place) x y b = (none_less, none_less, b, none_less)
    statement_less (Return place) x y b = (none_less, none_less, none_less, b)
    statement_less (ReturnValue place e) x y b =
        then_ways (walk_expression s e place x) (walk_expression z e place y) (λ d. GoesOn (record no_way { returns = d })) (λ d. GoesOn (record no_way { returns = d })) (expression_less e place x y b)
        (λ u v c. (none_less, none_less, none_less, c))
    statement_less (Output place ns) x y b =
        then_ways (read_locations place (columns_written code ns) x) (read_locations place (columns_written code ns) y) (λ d. GoesOn (way_on d)) (λ d. GoesOn (way_on d))
        (reads_less place (columns_written code ns) x y b) way_less
    statement_less (Put place items) x y b =
        then_ways (walk_items s items place x) (walk_items z items place y) (λ d. GoesOn (way_on d)) (λ d. GoesOn (way_on d)) (items_less items place x y b) way_less
    statement_less (If place e on) x y b =
        then_ways (walk_expression s e place x) (walk_expression z e place y) (λ d. by_condition (decided fewer code.home e) (walk s on d) (GoesOn (way_on d)))
        (λ d. by_condition (decided more code.home e) (walk z on d) (GoesOn (way_on d))) (expression_less e place x y b)
        (λ u v c. condition_less (decided fewer code.home e) (decided more code.home e) (walk s on u) (GoesOn (way_on u)) (walk z on v) (GoesOn (way_on v)) (info_of fewer more known_more code.home e)
        (statement_less on u v c) (way_less u v c))
    statement_less (IfElse place e on off) x y b =
        then_ways (walk_expression s e place x) (walk_expression z e place y) (λ d. by_condition (decided fewer code.home e) (walk s on d) (walk s off d))
        (λ d. by_condition (decided more code.home e) (walk z on d) (walk z off d)) (expression_less e place x y b)
        (λ u v c. condition_less (decided fewer code.home e) (decided more code.home e) (walk s on u) (walk s off u) (walk z on v) (walk z off v) (info_of fewer more known_more code.home e)
        (statement_less on u v c) (statement_less off u v c))
    statement_less (Select place whens) x y b = whens_less fewer more known_more whens place x y b
    statement_less (SelectValue place e whens) x y b =
        then_ways (walk_expression s e place x) (walk_expression z e place y) (walk_whens s no_flag whens place) (walk_whens z no_flag whens place) (expression_less e place x y b)
        (λ u v c. whens_less no_flag no_flag (λ at k. k) whens place u v c)
    statement_less (Block place body) x y b = body_less body x y b
    statement_less (Count place r start end step body) x y b =
        let behind : WalkScope → DirtySet → WalkEnd WaysOut =
        λ w d. then_walk (walk_all w body (all_cleaned (variable_at code.home r) d)) (λ ways. GoesOn (past_loop (all_cleaned (variable_at code.home r) d) ways)) in
        then_ways (walk_expression s start place x) (walk_expression z start place y)
        (λ d. then_walk (walk_expression s end place d) (λ f. then_walk (walk_step s step place f) (behind s)))
        (λ d. then_walk (walk_expression z end place d) (λ f. then_walk (walk_step z step place f) (behind z))) (expression_less start place x y b)
        (λ u v c. then_ways (walk_expression s end place u) (walk_expression z end place v) (λ f. then_walk (walk_step s step place f) (behind s)) (λ f. then_walk (walk_step z step place f) (behind z))
        (expression_less end place u v c)
        (λ i j f. then_ways (walk_step s step place i) (walk_step z step place j) (behind s) (behind z) (step_less step place i j f)
        (λ k l g.
        let head : Below (all_cleaned (variable_at code.home r) l) (all_cleaned (variable_at code.home r) k) = all_cleaned_less (variable_at code.home r) k l g in
        ways_then (walk_all s body (all_cleaned (variable_at code.home r) k)) (walk_all z body (all_cleaned (variable_at code.home r) l))
        (λ ways. GoesOn (past_loop (all_cleaned (variable_at code.home r) k) ways)) (λ ways. GoesOn (past_loop (all_cleaned (variable_at code.home r) l) ways))
        (body_less body (all_cleaned (variable_at code.home r) k) (all_cleaned (variable_at code.home r) l) head) (λ p q h. (head, none_less, none_less, h.3)))))
    statement_less (While place e body) x y b =
        then_ways (walk_expression s e place x) (walk_expression z e place y) (λ d. then_walk (walk_all s body d) (λ ways. GoesOn (past_loop x ways)))
        (λ d. then_walk (walk_all z body d) (λ ways. GoesOn (past_loop y ways))) (expression_less e place x y b)
        (λ u v c. ways_then (walk_all s body u) (walk_all z body v) (λ ways. GoesOn (past_loop x ways)) (λ ways. GoesOn (past_loop y ways)) (body_less body u v c) (λ p q h. (b, none_less, none_less, h.3)))
    statement_less (Until place e body) x y b =
        ways_then (walk_all s body x) (walk_all z body y)
        (λ ways. then_walk (walk_expression s e place (united ways.onward ways.continues)) (λ tested. GoesOn (past_last_test ways tested)))
        (λ ways. then_walk (walk_expression z e place (united ways.onward ways.continues)) (λ tested. GoesOn (past_last_test ways tested))) (body_less body x y b)
        (λ p q h. then_ways (walk_expression s e place (united p.onward p.continues)) (walk_expression z e place (united q.onward q.continues)) (λ tested. GoesOn (past_last_test p tested)) (λ tested. GoesOn (past_last_test q tested))
        (expression_less e place (united p.onward p.continues) (united q.onward q.continues) (united_less p.onward q.onward p.continues q.continues h.0 h.2))
        (λ u v c. (united_less u v p.leaves q.leaves c h.1, none_less, none_less, h.3)))

    body_less : (t : TypedStatements) (x y : DirtySet) → Below y x → WaysLess (walk_all s t x) (walk_all z t y)
    body_less Finish x y b = way_less x y b
    body_less (Next first rest) x y b =
        ways_then (walk s first x) (walk z first y) (λ p. then_walk (walk_all s rest p.onward) (λ q. GoesOn (ways_past p q))) (λ p. then_walk (walk_all z rest p.onward) (λ q. GoesOn (ways_past p q))) (statement_less first x y b)
        (λ p q h. ways_then (walk_all s rest p.onward) (walk_all z rest q.onward) (λ u. GoesOn (ways_past p u)) (λ u. GoesOn (ways_past q u)) (body_less rest p.onward q.onward h.0)
        (λ u v k. (k.0, united_less p.leaves q.leaves u.leaves v.leaves h.1 k.1, united_less p.continues q.continues u.continues v.continues h.2 k.2, united_less p.returns q.returns u.returns v.returns h.3 k.3)))

    whens_less : (f g : Location → Bool) → ((at : Location) → f at ≡ true → g at ≡ true) → (t : TypedWhens) (place : Place) (x y : DirtySet) → Below y x → WaysLess (walk_whens s f t place x) (walk_whens z g t place y)
    whens_less f g m NoOtherwise place x y b = (none_less, none_less, none_less, none_less)
    whens_less f g m (Otherwise t) place x y b = statement_less t x y b
    whens_less f g m (When es t rest) place x y b =
        tests_then (walk_tests s f es place x) (walk_tests z g es place y) (λ p. both_ways (walk s t p.holding) (walk_whens s f rest place p.failing)) (λ p. both_ways (walk z t p.holding) (walk_whens z g rest place p.failing))
        (tests_less f g m es place x y b)
        (λ p q c d. both_less (walk s t p.holding) (walk_whens s f rest place p.failing) (walk z t q.holding) (walk_whens z g rest place q.failing) (statement_less t p.holding q.holding c) (whens_less f g m rest place p.failing q.failing d))

-- ---- calls, and the walk over `run`

module _ (t : JudgedThread) (fewer more : Location → Bool) (known_more : (at : Location) → fewer at ≡ true → more at ≡ true) where
  past_less : (place : Place) (o q : WalkEnd WaysOut) → WaysLess o q → LessAt (past_body place o) (past_body place q)
  past_less place (FailsAt at inner) q h = tt
  past_less place (GoesOn x) (FailsAt at inner) h = absurd h
  past_less place (GoesOn x) (GoesOn y) h = end_less x y h

  method_body_less : (calls calls' : CallWalks) → ((m : MethodAt) (place : Place) (x y : DirtySet) → Below y x → LessAt (calls m place x) (calls' m place y)) → (home : Home) (o : Option MethodTree) (place : Place) (x y : DirtySet) → Below y x
      → LessAt (walk_body t fewer calls home o place x) (walk_body t more calls' home o place y)
  method_body_less calls calls' f home None place x y b = b
  method_body_less calls calls' f home (Some method) place x y b =
      past_less place (walk_all (record { code = method_scope t.program home; calls = calls; known = fewer }) method.body x) (walk_all (record { code = method_scope t.program home; calls = calls'; known = more }) method.body y)
      (body_less (method_scope t.program home) calls calls' fewer more f known_more method.body x y b)

  chosen_less : (b : Bool) (o q p r : WalkEnd DirtySet) → LessAt o q → LessAt p r → LessAt (if b then o else p) (if b then q else r)
  chosen_less true o q p r h k = h
  chosen_less false o q p r h k = k

  method_less : (n : ℕ) (m : MethodAt) (place : Place) (x y : DirtySet) → Below y x → LessAt (walk_method t fewer n m place x) (walk_method t more n m place y)
  method_less zero m place x y b = reads_less place (read_on_cycle t m) x y b
  method_less (suc n) m place x y b =
      chosen_less (is_on_cycle t.program m) (read_locations place (read_on_cycle t m) x) (read_locations place (read_on_cycle t m) y)
      (walk_body t fewer (walk_method t fewer n) m.home (slice_get (methods_of t.program m.home) m.number) place x) (walk_body t more (walk_method t more n) m.home (slice_get (methods_of t.program m.home) m.number) place y)
      (reads_less place (read_on_cycle t m) x y b)
      (method_body_less (walk_method t fewer n) (walk_method t more n) (λ k q u v c. method_less n k q u v c) m.home (slice_get (methods_of t.program m.home) m.number) place x y b)

  past_run_less : (x y : DirtySet) → Below y x → LessAt (past_run t x) (past_run t y)
  past_run_less x y b =
      let columns = columns_written (system_scope t.program) (range_with_len 0 (length t.program.outputs)) in
      chosen_less (program_has_output t.program) (GoesOn x) (GoesOn y) (read_locations t.run_place columns x) (read_locations t.run_place columns y) b (reads_less t.run_place columns x y b)

  run_less : (x y : DirtySet) → Below y x → LessAt (walk_run t fewer x) (walk_run t more y)
  run_less x y b =
      let n = number_of_methods t.program in
      ways_end (walk_all (record { code = system_scope t.program; calls = walk_method t fewer n; known = fewer }) t.program.run.statements x)
      (walk_all (record { code = system_scope t.program; calls = walk_method t more n; known = more }) t.program.run.statements y) (λ ways. past_run t (at_end ways)) (λ ways. past_run t (at_end ways))
      (body_less (system_scope t.program) (walk_method t fewer n) (walk_method t more n) fewer more (λ m place u v c. method_less n m place u v c) known_more t.program.run.statements x y b)
      (λ p q h. past_run_less (at_end p) (at_end q) (end_less p q h))

-- ---- coarser grains

or_else : (a b : Bool) → b ≡ true → (if a then true else b) ≡ true
or_else true b e = refl
or_else false b e = e

neither_by : (a c d : Bool) → (d ≡ false → c ≡ false) → (if a then true else d) ≡ false → (if a then true else c) ≡ false
neither_by true c d f e = e
neither_by false c d f e = f e

by_in_drop : (n : ℕ) (bys : List ByVariable) (name : List ℕ) → is_by (drop n bys) name ≡ true → is_by bys name ≡ true
by_in_drop zero bys name e = e
by_in_drop (suc n) [] name e = e
by_in_drop (suc n) (by ∷ bys) name e = or_else (bytes_eq by.name name) (is_by bys name) (by_in_drop n bys name e)

by_dropped : (m n : ℕ) (bys : List ByVariable) (name : List ℕ) → m ≤ n → is_by (drop n bys) name ≡ true → is_by (drop m bys) name ≡ true
by_dropped zero n bys name l e = by_in_drop n bys name e
by_dropped (suc m) zero bys name l e = absurd (omega (arith, l))
by_dropped (suc m) (suc n) [] name l e = e
by_dropped (suc m) (suc n) (by ∷ bys) name l e = by_dropped m n bys name (omega (arith, l)) e

by_taken : (m n : ℕ) (bys : List ByVariable) (name : List ℕ) → m ≤ n → is_by (take n bys) name ≡ false → is_by (take m bys) name ≡ false
by_taken zero n bys name l e = refl
by_taken (suc m) zero bys name l e = absurd (omega (arith, l))
by_taken (suc m) (suc n) [] name l e = refl
by_taken (suc m) (suc n) (by ∷ bys) name l e =
    neither_by (bytes_eq by.name name) (is_by (take m bys) name) (is_by (take n bys) name) (λ f. by_taken m n bys name (omega (arith, l)) f) e

first_more : (few many : List ByVariable) → ((name : List ℕ) → is_by few name ≡ true → is_by many name ≡ true) → (home : Home) (g : Global) → is_first_of_by few home g ≡ true → is_first_of_by many home g ≡ true
first_more few many f None (First name) e = f name e
first_more few many f None (Named name) e = e
first_more few many f None (Last name) e = e
first_more few many f None (Present name) e = e
first_more few many f None (Parameter name) e = e
first_more few many f (Some instance) g e = e

flags_less : (many few : List ByVariable) → ((name : List ℕ) → is_by many name ≡ false → is_by few name ≡ false) → (home : Home) (g : Global) → is_flag_of_by many home g ≡ false → is_flag_of_by few home g ≡ false
flags_less many few f None (First name) e = f name e
flags_less many few f None (Last name) e = f name e
flags_less many few f None (Named name) e = e
flags_less many few f None (Present name) e = e
flags_less many few f None (Parameter name) e = e
flags_less many few f (Some instance) g e = e

ground_none : (o q : WalkEnd DirtySet) → LessAt o q → ground_of_walk o ≡ None → ground_of_walk q ≡ None
ground_none (FailsAt at place) q h e = absurd cc
ground_none (GoesOn x) (FailsAt at place) h e = absurd h
ground_none (GoesOn x) (GoesOn y) h e = refl

pub coarser_holds : CoarserHolds
coarser_holds t grain coarser l holds =
    let p = t.program in
    let r = p.reading in
    let less : coarser - 1 ≤ grain - 1 = omega (arith, l) in
    let more : (at : Location) → known_first t grain at ≡ true → known_first t coarser at ≡ true =
    λ at e. first_more (bys_from grain r) (bys_from coarser r) (λ name f. by_dropped (coarser - 1) (grain - 1) (bys_of r) name less f) at.home at.global e in
    let flags : Below (is_flag_before coarser r) (is_flag_before grain r) =
    λ at e. flags_less (bys_before grain r) (bys_before coarser r) (λ name f. by_taken (coarser - 1) (grain - 1) (bys_of r) name less f) at.home at.global e in
    ground_none (then_walk (first_walk t grain) (second_walk t grain)) (then_walk (first_walk t coarser) (second_walk t coarser))
    (then_less (first_walk t grain) (first_walk t coarser) (second_walk t grain) (second_walk t coarser)
    (run_less t (known_first t grain) (known_first t coarser) more (united (is_cell p) (is_flag_before grain r)) (united (is_cell p) (is_flag_before coarser r))
    (united_less (is_cell p) (is_cell p) (is_flag_before grain r) (is_flag_before coarser r) (λ at e. e) flags))
    (λ x y c. run_less t no_flag no_flag (λ at e. e) (united x (is_flag_before grain r)) (united y (is_flag_before coarser r)) (united_less x y (is_flag_before grain r) (is_flag_before coarser r) c flags))) holds
