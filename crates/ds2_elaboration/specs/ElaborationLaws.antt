-- What is given of the rules that a unit breaks, and when it becomes a typed program or package.
use Rattle.std.specs.Prelude.{◌≡◌, ◌⊎◌, ℕ, true, List, [], ◌∷◌, Some, None}
use Rattle.std.specs.List.{AllByRecursion}
use Rattle.ds2_base.specs.declared.place.Refusal.{Refusal}
use Rattle.ds2_tree.specs.Statements as s
use Rattle.ds2_meaning.specs.IsTyped.{ListSurelyReturns}
use Rattle.ds2_names.specs.Refusals.{scope_rank, type_rank, comes_before, least_refusal}
use Rattle.ds2_names.specs.SourceLimits.{beyond_source_limits, scope_refusal}
use Rattle.ds2_names.specs.SourceUnit.{TableColumns, UnitSource}
use Rattle.ds2_names.specs.UnitRules.{broken_name_rules}
use Rattle.ds2_meaning.specs.declared.refusals.ScopeKind.{ScopeKind}
use Rattle.ds2_meaning.specs.declared.refusals.TypeKind.{TypeKind}
use Rattle.ds2_elaboration.specs.Elaboration.{OfNames, OfTypes, unit_refusal}
use Rattle.ds2_elaboration.specs.ExpressionTypes.{TypeScope}
use Rattle.ds2_elaboration.specs.ProgramTypes.{broken_type_rules, type_refusal}
use Rattle.ds2_elaboration.specs.SourceTypes.{unit_names}
use Rattle.ds2_elaboration.specs.StatementTypes.{list_surely_returns, statements_node}
use Rattle.ds2_elaboration.specs.UnitsBefore.{UnitsBefore}

-- ---- the first refusal

-- x stands in a list
abbrev pub StandsAmong : {A : Type 0} → List A → A → Type 0
StandsAmong [] x = ⊥
StandsAmong (y ∷ ys) x = (x ≡ y) ⊎ StandsAmong ys x

-- of broken rules the one that is given is one of them, and it comes before each of them
abbrev pub FirstIsGiven : {K : Type 0} → (K → ℕ) → Type 0
FirstIsGiven {K} rank = (refusals : List (Refusal K)) (given : Refusal K) → least_refusal rank refusals ≡ Some given
    → StandsAmong refusals given × AllByRecursion (λ due. comes_before rank given due ≡ true) refusals

-- the first refusal is given, of names and of types
pub record FirstRefusals : Type 0 where
  pub names : FirstIsGiven scope_rank
  pub types : FirstIsGiven type_rank

-- ---- one outcome

-- a unit behind others breaks no rule
pub record BreaksNoRule (tables : TableColumns) (before : UnitsBefore) (u : UnitSource) : Type 0 where
  pub names : broken_name_rules tables (unit_names tables before u) ≡ []
  pub limits : beyond_source_limits before.names u ≡ []
  pub types : broken_type_rules tables before u ≡ []

-- a unit is not refused exactly where it breaks no rule; it is refused for its names exactly where one of their rules is broken, and for
-- its types exactly where its names are sound and one of theirs is broken
pub record OneOutcome : Type 0 where
  pub not_refused : (tables : TableColumns) (before : UnitsBefore) (u : UnitSource) → BreaksNoRule tables before u → unit_refusal tables before u ≡ None
  pub breaks_no_rule : (tables : TableColumns) (before : UnitsBefore) (u : UnitSource) → unit_refusal tables before u ≡ None → BreaksNoRule tables before u
  pub refused_for_names : (tables : TableColumns) (before : UnitsBefore) (u : UnitSource) (r : Refusal ScopeKind)
      → unit_refusal tables before u ≡ Some (OfNames r) → scope_refusal tables before.names u ≡ Some r
  pub refused_for_types : (tables : TableColumns) (before : UnitsBefore) (u : UnitSource) (r : Refusal TypeKind)
      → unit_refusal tables before u ≡ Some (OfTypes r) → (scope_refusal tables before.names u ≡ None) × (type_refusal tables before u ≡ Some r)

-- ---- surely returning

-- statements that surely return become statements that surely return
abbrev pub ReturningIsKept : Type 0
ReturningIsKept = (scope : TypeScope) (body : s.Statements) → list_surely_returns body ≡ true → ListSurelyReturns (statements_node scope body)
