-- The refusal of a unit's names, from the earliest place at which each rule is broken.
use Rattle.std.proofs.Common.{◌≡◌, ◌<◌, ◌≤◌, ◌⊎◌, inl, inr, eq-or-lt_of_le, ℕ, Bool, true, false, not, ◌||◌, ◌&&◌, ◌==◌, nat_le, List, [], ◌∷◌, ◌++◌, Option, Some, None, refl, sym, ap, ◌∙◌, true≢false, arith}
use Rattle.std.specs.Prelude.{if◌then◌else◌, map}
use Rattle.std.proofs.lemmas.Bool.{leb-true, leb-false, le-leb, eqb-true, eq-eqb}
use Rattle.ds2_base.specs.declared.place.Place.{Place}
use Rattle.ds2_base.specs.declared.place.Refusal.{Refusal}
use Rattle.ds2_meaning.specs.declared.refusals.ScopeKind.{ScopeKind}
use Rattle.ds2_meaning.specs.declared.refusals.ScopeKind.TheVariants as scope
use Rattle.ds2_names.specs.NameRules.{unknown_names, duplicate_names, unknown_methods, wrong_counts, not_variables, aliased_arguments}
use Rattle.ds2_names.specs.Refusals.{scope_rank, is_same_place, comes_before, first_of_both, least_refusal, broken_at}
use Rattle.ds2_names.specs.SourceLimits.{BeforeUnit, beyond_source_limits, scope_refusal}
use Rattle.ds2_names.specs.SourceUnit.{TableColumns, UnitSource, SourceNames, is_earlier, names_of_unit}
use Rattle.ds2_names.specs.UnitRules.{too_many_names, bad_numbers, misplaced, no_columns, broken_name_rules}
use Rattle.ds2_scope.specs.Earliest.{earlier_of, earliest}
use Rattle.ds2_scope.specs.Lesser.{lesser, refused_first, first_refusal, rules_broken, RefusalOfPlaces}
use Rattle.ds2_scope.proofs.EarliestLemmas.{both_true, neither, must, must_not, IsBefore, IsNotBefore, before, not_before}

-- ---- tests

either : (b c : Bool) → b || c ≡ true → (b ≡ true) ⊎ (c ≡ true)
either true c h = inl refl
either false c h = inr h

-- ---- the order of refusals

-- a comes before b, or is like it
abbrev IsFirst : Refusal ScopeKind → Refusal ScopeKind → Type 0
IsFirst a b = (a.place.line < b.place.line) ⊎ (((a.place.line ≡ b.place.line) × (a.place.column < b.place.column))
    ⊎ ((a.place.line ≡ b.place.line) × (a.place.column ≡ b.place.column) × (scope_rank a.kind ≤ scope_rank b.kind)))

-- b comes before a
abbrev IsBehind : Refusal ScopeKind → Refusal ScopeKind → Type 0
IsBehind a b = (b.place.line < a.place.line) ⊎ (((b.place.line ≡ a.place.line) × (b.place.column < a.place.column))
    ⊎ ((b.place.line ≡ a.place.line) × (b.place.column ≡ a.place.column) × (scope_rank b.kind < scope_rank a.kind)))

pub same_parts : (a b : Place) → is_same_place a b ≡ true → (a.line ≡ b.line) × (a.column ≡ b.column)
same_parts a b h = let parts = both_true (a.line == b.line) (a.column == b.column) h in (eqb-true a.line b.line parts.0, eqb-true a.column b.column parts.1)

pub are_same : (a b : Place) → a.line ≡ b.line → a.column ≡ b.column → is_same_place a b ≡ true
are_same a b h k = (λ i. eq-eqb a.line b.line h i && (a.column == b.column)) ∙ eq-eqb a.column b.column k

is_first : (a b : Refusal ScopeKind) → comes_before scope_rank a b ≡ true → IsFirst a b
is_first a b h = by (either (is_earlier a.place b.place) (is_same_place a.place b.place && nat_le (scope_rank a.kind) (scope_rank b.kind)) h)
  where
    earlier : IsBefore a.place b.place → IsFirst a b
    earlier (inl k) = inl k
    earlier (inr k) = inr (inl k)

    by : (is_earlier a.place b.place ≡ true) ⊎ ((is_same_place a.place b.place && nat_le (scope_rank a.kind) (scope_rank b.kind)) ≡ true) → IsFirst a b
    by (inl k) = earlier (before a.place b.place k)
    by (inr k) =
        let parts = both_true (is_same_place a.place b.place) (nat_le (scope_rank a.kind) (scope_rank b.kind)) k in
        let same = same_parts a.place b.place parts.0 in inr (inr (same.0, same.1, leb-true (scope_rank a.kind) (scope_rank b.kind) parts.1))

is_behind : (a b : Refusal ScopeKind) → comes_before scope_rank a b ≡ false → IsBehind a b
is_behind a b h = by (not_before a.place b.place parts.0)
  where
    parts : (is_earlier a.place b.place ≡ false) × ((is_same_place a.place b.place && nat_le (scope_rank a.kind) (scope_rank b.kind)) ≡ false)
    parts = neither (is_earlier a.place b.place) (is_same_place a.place b.place && nat_le (scope_rank a.kind) (scope_rank b.kind)) h

    ranks : a.place.line ≡ b.place.line → a.place.column ≡ b.place.column → scope_rank b.kind < scope_rank a.kind
    ranks l k =
        let other : nat_le (scope_rank a.kind) (scope_rank b.kind) ≡ false =
        sym (ap (λ t. t && nat_le (scope_rank a.kind) (scope_rank b.kind)) (are_same a.place b.place l k)) ∙ parts.1 in leb-false (scope_rank a.kind) (scope_rank b.kind) other

    columns : a.place.line ≡ b.place.line → (b.place.column ≡ a.place.column) ⊎ (b.place.column < a.place.column) → IsBehind a b
    columns l (inl k) = inr (inr (sym l, k, ranks l (sym k)))
    columns l (inr k) = inr (inl (sym l, k))

    by : IsNotBefore a.place b.place → IsBehind a b
    by (inl k) = inl k
    by (inr k) = columns k.0 (eq-or-lt_of_le k.1)

first_trans : (a b c : Refusal ScopeKind) → comes_before scope_rank a b ≡ true → comes_before scope_rank b c ≡ true → comes_before scope_rank a c ≡ true
first_trans a b c h k =
    must (comes_before scope_rank a c) (λ n. let x = is_first a b h in let y = is_first b c k in let z = is_behind a c n in omega (arith, x, y, z))

behind_trans : (a b c : Refusal ScopeKind) → comes_before scope_rank a b ≡ false → comes_before scope_rank b c ≡ false → comes_before scope_rank a c ≡ false
behind_trans a b c h k =
    must_not (comes_before scope_rank a c) (λ n. let x = is_behind a b h in let y = is_behind b c k in let z = is_first a c n in omega (arith, x, y, z))

-- ---- the lesser of two

lesser_none : (x : Option (Refusal ScopeKind)) → lesser x None ≡ x
lesser_none None = refl
lesser_none (Some a) = refl

lesser_assoc : (x y z : Option (Refusal ScopeKind)) → lesser (lesser x y) z ≡ lesser x (lesser y z)
lesser_assoc None y z = refl
lesser_assoc (Some a) None z = refl
lesser_assoc (Some a) (Some b) None = lesser_none (lesser (Some a) (Some b))
lesser_assoc (Some a) (Some b) (Some c) = by (comes_before scope_rank a b) (comes_before scope_rank b c) refl refl
  where
    by : (s t : Bool) → comes_before scope_rank a b ≡ s → comes_before scope_rank b c ≡ t
        → lesser (Some (if s then a else b)) (Some c) ≡ lesser (Some a) (Some (if t then b else c))
    by true true h k = ap (λ t. Some (if t then a else c)) (first_trans a b c h k) ∙ sym (ap (λ t. Some (if t then a else b)) h)
    by true false h k = refl
    by false true h k = ap (λ t. Some (if t then b else c)) k ∙ sym (ap (λ t. Some (if t then a else b)) h)
    by false false h k = ap (λ t. Some (if t then b else c)) k ∙ sym (ap (λ t. Some (if t then a else c)) (behind_trans a b c h k))

least_append : (xs ys : List (Refusal ScopeKind)) → least_refusal scope_rank (xs ++ ys) ≡ lesser (least_refusal scope_rank xs) (least_refusal scope_rank ys)
least_append [] ys = refl
least_append (x ∷ xs) ys =
    ap (lesser (Some x)) (least_append xs ys) ∙ sym (lesser_assoc (Some x) (least_refusal scope_rank xs) (least_refusal scope_rank ys))

-- ---- the places of one kind

module _ (kind : ScopeKind) where
  abbrev refusal_at : Place → Refusal ScopeKind
  refusal_at place = record { kind = kind; place = place }

  -- of two places the earlier one is given
  earlier_first : (p q : Place) → is_earlier q p ≡ false → comes_before scope_rank (refusal_at p) (refusal_at q) ≡ true
  earlier_first p q h =
      must (comes_before scope_rank (refusal_at p) (refusal_at q))
      (λ n. let x = not_before q p h in let y = is_behind (refusal_at p) (refusal_at q) n in omega (arith, x, y))

  later_last : (p q : Place) → is_earlier q p ≡ true → comes_before scope_rank (refusal_at p) (refusal_at q) ≡ false
  later_last p q h =
      must_not (comes_before scope_rank (refusal_at p) (refusal_at q))
      (λ n. let x = before q p h in let y = is_first (refusal_at p) (refusal_at q) n in omega (arith, x, y))

  one_place : (p : Place) (o : Option Place) → lesser (Some (refusal_at p)) (refused_first kind o) ≡ refused_first kind (earlier_of (Some p) o)
  one_place p None = refl
  one_place p (Some q) = by (is_earlier q p) refl
    where
      by : (t : Bool) → is_earlier q p ≡ t → lesser (Some (refusal_at p)) (Some (refusal_at q)) ≡ refused_first kind (if t then Some q else Some p)
      by true h = ap (λ t. Some (if t then refusal_at p else refusal_at q)) (later_last p q h)
      by false h = ap (λ t. Some (if t then refusal_at p else refusal_at q)) (earlier_first p q h)

  least_of_places : (places : List Place) → least_refusal scope_rank (broken_at kind places) ≡ refused_first kind (earliest places)
  least_of_places [] = refl
  least_of_places (p ∷ places) = ap (lesser (Some (refusal_at p))) (least_of_places places) ∙ one_place p (earliest places)

-- one kind behind others
one_more_rule : (kind : ScopeKind) (others : List (Refusal ScopeKind)) (places : List Place)
    → least_refusal scope_rank (others ++ broken_at kind places) ≡ lesser (least_refusal scope_rank others) (refused_first kind (earliest places))
one_more_rule kind others places =
    least_append others (broken_at kind places) ∙ ap (lesser (least_refusal scope_rank others)) (least_of_places kind places)

-- one kind between others
one_rule_between : (kind : ScopeKind) (others : List (Refusal ScopeKind)) (places : List Place) (found : Option (Refusal ScopeKind))
    → lesser (least_refusal scope_rank (others ++ broken_at kind places)) found ≡ lesser (least_refusal scope_rank others) (lesser (refused_first kind (earliest places)) found)
one_rule_between kind others places found =
    ap (λ x. lesser x found) (one_more_rule kind others places)
    ∙ lesser_assoc (least_refusal scope_rank others) (refused_first kind (earliest places)) found

-- the broken rules up to one of them, in order
abbrev rules_to_one : TableColumns → SourceNames → List (Refusal ScopeKind)
rules_to_one tables names = broken_at scope.UnknownName (unknown_names tables names)

abbrev rules_to_two : TableColumns → SourceNames → List (Refusal ScopeKind)
rules_to_two tables names = rules_to_one tables names ++ broken_at scope.DuplicateName (duplicate_names names)

abbrev rules_to_three : TableColumns → SourceNames → List (Refusal ScopeKind)
rules_to_three tables names = rules_to_two tables names ++ broken_at scope.UnknownMethod (unknown_methods names)

abbrev rules_to_four : TableColumns → SourceNames → List (Refusal ScopeKind)
rules_to_four tables names = rules_to_three tables names ++ broken_at scope.WrongCount (wrong_counts names)

abbrev rules_to_five : TableColumns → SourceNames → List (Refusal ScopeKind)
rules_to_five tables names = rules_to_four tables names ++ broken_at scope.NotVariable (not_variables names)

abbrev rules_to_six : TableColumns → SourceNames → List (Refusal ScopeKind)
rules_to_six tables names = rules_to_five tables names ++ broken_at scope.AliasedArgument (aliased_arguments names)

abbrev rules_to_seven : TableColumns → SourceNames → List (Refusal ScopeKind)
rules_to_seven tables names = rules_to_six tables names ++ broken_at scope.TooManyNames (too_many_names names)

abbrev rules_to_eight : TableColumns → SourceNames → List (Refusal ScopeKind)
rules_to_eight tables names = rules_to_seven tables names ++ broken_at scope.BadNumber (bad_numbers names)

abbrev rules_to_nine : TableColumns → SourceNames → List (Refusal ScopeKind)
rules_to_nine tables names = rules_to_eight tables names ++ broken_at scope.Misplaced (misplaced names)

-- what is given of the rules from one of them on
abbrev first_from_ten : SourceNames → Option (Refusal ScopeKind)
first_from_ten names = refused_first scope.NoColumns (earliest (no_columns names))

abbrev first_from_nine : SourceNames → Option (Refusal ScopeKind)
first_from_nine names = lesser (refused_first scope.Misplaced (earliest (misplaced names))) (first_from_ten names)

abbrev first_from_eight : SourceNames → Option (Refusal ScopeKind)
first_from_eight names = lesser (refused_first scope.BadNumber (earliest (bad_numbers names))) (first_from_nine names)

abbrev first_from_seven : SourceNames → Option (Refusal ScopeKind)
first_from_seven names = lesser (refused_first scope.TooManyNames (earliest (too_many_names names))) (first_from_eight names)

abbrev first_from_six : SourceNames → Option (Refusal ScopeKind)
first_from_six names = lesser (refused_first scope.AliasedArgument (earliest (aliased_arguments names))) (first_from_seven names)

abbrev first_from_five : SourceNames → Option (Refusal ScopeKind)
first_from_five names = lesser (refused_first scope.NotVariable (earliest (not_variables names))) (first_from_six names)

abbrev first_from_four : SourceNames → Option (Refusal ScopeKind)
first_from_four names = lesser (refused_first scope.WrongCount (earliest (wrong_counts names))) (first_from_five names)

abbrev first_from_three : SourceNames → Option (Refusal ScopeKind)
first_from_three names = lesser (refused_first scope.UnknownMethod (earliest (unknown_methods names))) (first_from_four names)

abbrev first_from_two : SourceNames → Option (Refusal ScopeKind)
first_from_two names = lesser (refused_first scope.DuplicateName (earliest (duplicate_names names))) (first_from_three names)

first_of_rules : (tables : TableColumns) (names : SourceNames)
    → least_refusal scope_rank (broken_name_rules tables names) ≡ lesser (refused_first scope.UnknownName (earliest (unknown_names tables names))) (first_from_two names)
first_of_rules tables names =
    one_more_rule scope.NoColumns (rules_to_nine tables names) (no_columns names)
    ∙ one_rule_between scope.Misplaced (rules_to_eight tables names) (misplaced names) (first_from_ten names)
    ∙ one_rule_between scope.BadNumber (rules_to_seven tables names) (bad_numbers names) (first_from_nine names)
    ∙ one_rule_between scope.TooManyNames (rules_to_six tables names) (too_many_names names) (first_from_eight names)
    ∙ one_rule_between scope.AliasedArgument (rules_to_five tables names) (aliased_arguments names) (first_from_seven names)
    ∙ one_rule_between scope.NotVariable (rules_to_four tables names) (not_variables names) (first_from_six names)
    ∙ one_rule_between scope.WrongCount (rules_to_three tables names) (wrong_counts names) (first_from_five names)
    ∙ one_rule_between scope.UnknownMethod (rules_to_two tables names) (unknown_methods names) (first_from_four names)
    ∙ one_rule_between scope.DuplicateName (rules_to_one tables names) (duplicate_names names) (first_from_three names)
    ∙ ap (λ x. lesser x (first_from_two names)) (least_of_places scope.UnknownName (unknown_names tables names))

pub refusal_of_places : RefusalOfPlaces
refusal_of_places tables units u =
    let names = names_of_unit tables units.known u in
    one_more_rule scope.TooManyNames (broken_name_rules tables names) (beyond_source_limits units u)
    ∙ ap (λ x. lesser x (refused_first scope.TooManyNames (earliest (beyond_source_limits units u)))) (first_of_rules tables names)
