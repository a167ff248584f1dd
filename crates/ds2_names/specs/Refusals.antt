-- Which of several refusals is given.
use Rattle.std.specs.Prelude.{ℕ, Bool, ◌||◌, ◌&&◌, ◌==◌, nat_le, if◌then◌else◌, List, [], ◌∷◌, map, Option, Some, None}
use Rattle.ds2_base.specs.declared.place.Place.{Place}
use Rattle.ds2_base.specs.declared.place.Refusal.{Refusal}
use Rattle.ds2_names.specs.SourceUnit.{is_earlier}
use Rattle.ds2_meaning.specs.declared.refusals.ScopeKind.{ScopeKind}
use Rattle.ds2_meaning.specs.declared.refusals.ScopeKind.TheVariants as scope
use Rattle.ds2_meaning.specs.declared.refusals.TypeKind.{TypeKind}
use Rattle.ds2_meaning.specs.declared.refusals.TypeKind.TheVariants as types

-- the order of the kinds of names
abbrev pub scope_rank : ScopeKind → ℕ
scope_rank scope.UnknownName = 0
scope_rank scope.DuplicateName = 1
scope_rank scope.UnknownMethod = 2
scope_rank scope.WrongCount = 3
scope_rank scope.NotVariable = 4
scope_rank scope.AliasedArgument = 5
scope_rank scope.TooManyNames = 6
scope_rank scope.BadNumber = 7
scope_rank scope.Misplaced = 8
scope_rank scope.NoColumns = 9

-- the order of the kinds of types
abbrev pub type_rank : TypeKind → ℕ
type_rank types.TypeClash = 0
type_rank types.ScaleTooLarge = 1
type_rank types.NotTruth = 2
type_rank types.NoReturn = 3

-- two places are one
abbrev pub is_same_place : Place → Place → Bool
is_same_place a b = (a.line == b.line) && (a.column == b.column)

-- a refusal comes before another one: its place is earlier, or it is the same and its kind comes first
abbrev pub comes_before : {K : Type 0} → (K → ℕ) → Refusal K → Refusal K → Bool
comes_before rank a b = is_earlier a.place b.place || (is_same_place a.place b.place && nat_le (rank a.kind) (rank b.kind))

-- the one of two refusals that is given
abbrev pub first_of_both : {K : Type 0} → (K → ℕ) → Refusal K → Option (Refusal K) → Refusal K
first_of_both rank a None = a
first_of_both rank a (Some b) = if comes_before rank a b then a else b

-- the one of several refusals that is given: that with the least place, and at one place the first kind; none of none
abbrev pub least_refusal : {K : Type 0} → (K → ℕ) → List (Refusal K) → Option (Refusal K)
least_refusal rank [] = None
least_refusal rank (r ∷ refusals) = Some (first_of_both rank r (least_refusal rank refusals))

-- a rule is broken at these places
abbrev pub broken_at : {K : Type 0} → K → List Place → List (Refusal K)
broken_at kind places = map (λ place. record { kind = kind; place = place }) places
