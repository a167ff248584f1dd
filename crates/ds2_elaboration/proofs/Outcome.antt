-- A unit has one outcome.
use Rattle.std.proofs.Common.{◌≡◌, Bool, true, false, List, [], ◌∷◌, ◌++◌, Option, Some, None, refl, ap, ◌∙◌}
use Rattle.ds2_base.specs.declared.place.Place.{Place}
use Rattle.ds2_base.specs.declared.place.Refusal.{Refusal}
use Rattle.ds2_names.specs.NameRules.{place_unless}
use Rattle.ds2_names.specs.Refusals.{scope_rank, type_rank, least_refusal, broken_at}
use Rattle.ds2_names.specs.SourceLimits.{beyond_source_limits, scope_refusal}
use Rattle.ds2_names.specs.SourceUnit.{TableColumns, UnitSource}
use Rattle.ds2_names.specs.UnitRules.{broken_name_rules}
use Rattle.ds2_meaning.specs.declared.refusals.ScopeKind.{ScopeKind}
use Rattle.ds2_meaning.specs.declared.refusals.ScopeKind.TheVariants.{TooManyNames}
use Rattle.ds2_meaning.specs.declared.refusals.TypeKind.{TypeKind}
use Rattle.ds2_elaboration.specs.Elaboration.{OfNames, OfTypes, names_before_types}
use Rattle.ds2_elaboration.specs.ElaborationLaws.{BreaksNoRule, OneOutcome}
use Rattle.ds2_elaboration.specs.ProgramTypes.{broken_type_rules, type_refusal}
use Rattle.ds2_elaboration.specs.SourceTypes.{unit_names}
use Rattle.ds2_elaboration.specs.UnitsBefore.{UnitsBefore}
use Rattle.ds2_elaboration.proofs.Given.{none_due}

pub both_empty : {A : Type 0} (xs ys : List A) → xs ++ ys ≡ [] → (xs ≡ []) × (ys ≡ [])
both_empty [] ys h = (refl, h)
both_empty (x ∷ xs) ys h = cc

pub unplaced : (b : Bool) (place : Place) → place_unless b place ≡ [] → b ≡ true
unplaced true place h = refl
unplaced false place h = cc

no_places : (kind : ScopeKind) (places : List Place) → broken_at kind places ≡ [] → places ≡ []
no_places kind [] h = refl
no_places kind (p ∷ places) h = cc

both_none : (names : Option (Refusal ScopeKind)) (types : Option (Refusal TypeKind)) → names_before_types names types ≡ None → (names ≡ None) × (types ≡ None)
both_none (Some r) types h = cc
both_none None (Some r) h = cc
both_none None None h = (refl, refl)

for_names : (names : Option (Refusal ScopeKind)) (types : Option (Refusal TypeKind)) (r : Refusal ScopeKind) → names_before_types names types ≡ Some (OfNames r)
    → names ≡ Some r
for_names (Some q) types r h = cc
for_names None (Some q) r h = cc
for_names None None r h = cc

for_types : (names : Option (Refusal ScopeKind)) (types : Option (Refusal TypeKind)) (r : Refusal TypeKind) → names_before_types names types ≡ Some (OfTypes r)
    → (names ≡ None) × (types ≡ Some r)
for_types (Some q) types r h = cc
for_types None (Some q) r h = (refl, cc)
for_types None None r h = cc

module _ (tables : TableColumns) (before : UnitsBefore) (u : UnitSource) where
  names_none : BreaksNoRule tables before u → scope_refusal tables before.names u ≡ None
  names_none b =
      ap (λ xs. least_refusal scope_rank (xs ++ broken_at TooManyNames (beyond_source_limits before.names u))) b.names
      ∙ ap (λ places. least_refusal scope_rank (broken_at TooManyNames places)) b.limits

  types_none : BreaksNoRule tables before u → type_refusal tables before u ≡ None
  types_none b = ap (λ xs. least_refusal type_rank xs) b.types

  nothing_broken : scope_refusal tables before.names u ≡ None → type_refusal tables before u ≡ None → BreaksNoRule tables before u
  nothing_broken names types =
      let own = broken_name_rules tables (unit_names tables before u) in
      let limits = broken_at TooManyNames (beyond_source_limits before.names u) in
      let parts = both_empty own limits (none_due scope_rank (own ++ limits) names) in
      record {
        names = parts.0;
        limits = no_places TooManyNames (beyond_source_limits before.names u) parts.1;
        types = none_due type_rank (broken_type_rules tables before u) types;
      }

pub one_outcome : OneOutcome
one_outcome = record {
  not_refused = λ tables before u b.
      ap (λ o. names_before_types o (type_refusal tables before u)) (names_none tables before u b) ∙ ap (λ o. names_before_types None o) (types_none tables before u b);
  breaks_no_rule = λ tables before u h.
      let parts = both_none (scope_refusal tables before.names u) (type_refusal tables before u) h in nothing_broken tables before u parts.0 parts.1;
  refused_for_names = λ tables before u r h. for_names (scope_refusal tables before.names u) (type_refusal tables before u) r h;
  refused_for_types = λ tables before u r h. for_types (scope_refusal tables before.names u) (type_refusal tables before u) r h;
}
