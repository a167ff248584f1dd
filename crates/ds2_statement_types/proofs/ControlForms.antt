-- What stands between `do` and its `;`, and what becomes of a variable of a counted loop.
use Rattle.std.proofs.Common.{◌≡◌, Bool, true, false, if◌then◌else◌, [], ◌∷◌, ◌++◌, Option, Some, None, Result, Ok, Err, refl, sym, ap, ◌∙◌, subst}
use Rattle.ds2_base.specs.declared.place.Place.{Place}
use Rattle.std.specs.Prelude.{IfOk}
use Rattle.ds2_base.specs.declared.place.Refusal.{Refusal}
use Rattle.ds2_base.specs.declared.stop.OutOfMemory.{OutOfMemory}
use Rattle.ds2_value.specs.declared.ty.Ty.{Ty}
use Rattle.ds2_meaning.specs.declared.location.Reference.{Reference}
use Rattle.ds2_meaning.specs.declared.refusals.TypeKind.{TypeKind}
use Rattle.ds2_meaning.specs.declared.refusals.TypeKind.TheVariants.{TypeClash}
use Rattle.ds2_elaboration.specs.ExpressionTypes.{TypeScope, KnownVariable}
use Rattle.ds2_elaboration.specs.StatementTypes.{counted_refusals, counted_reference, control_refusals}
use Rattle.ds2_tree.specs.Statements as s
use Rattle.ds2_elaboration.specs.Typings.{TypeRefusals, typing_behind, where_known, clash_unless, is_integer_type}
use Rattle.ds2_types.specs.Judgements.{first_type_refusal, lesser_refusal, IsOutcome}
use Rattle.ds2_types.proofs.RefusalOrder.{least_append, none_given}
use Rattle.ds2_reference_types.proofs.KnownNames.{none_not_some, some_not_none, inside}
use Rattle.ds2_statement_types.specs.Controls.{IsHeldControl}
use Rattle.ds2_statement_types.specs.declared.counts.TypedControl.{TypedControl}
use Rattle.ds2_simple_statement_types.specs.Targets.{IsHeldTarget, IsTargetAs}
use Rattle.ds2_simple_statement_types.specs.declared.targets.Target.{Target}

-- what the variable of a counted loop breaks
abbrev counting_refusals : Place → TypeRefusals → Ty → TypeRefusals
counting_refusals place refusals ty = refusals ++ where_known (typing_behind refusals ty) (λ t. clash_unless (is_integer_type t) place)

nothing_else : (place : Place) (ty : Ty) (q : Refusal TypeKind) (qs : TypeRefusals) → first_type_refusal (counting_refusals place (q ∷ qs) ty) ≡ first_type_refusal (q ∷ qs)
nothing_else place ty q qs =
    least_append (q ∷ qs) [] ∙ by (first_type_refusal (q ∷ qs))
  where
    by : (x : Option (Refusal TypeKind)) → lesser_refusal x None ≡ x
    by None = refl
    by (Some r) = refl

module _ (place : Place) (ty : Ty) where
  -- a column whose tables do not join
  pub unjoined_count : (refusals : TypeRefusals) (own : Refusal TypeKind) → Some own ≡ first_type_refusal refusals → first_type_refusal (counting_refusals place refusals ty) ≡ Some own
  unjoined_count [] own e = absurd (none_not_some own e)
  unjoined_count (q ∷ qs) own e = nothing_else place ty q qs ∙ sym e

  -- another variable
  pub joined_count : (refusals : TypeRefusals) (r : Reference) (result : Result Reference (Refusal TypeKind)) → None ≡ first_type_refusal refusals
      → IsOutcome (λ (x : Reference). x ≡ r) (clash_unless (is_integer_type ty) place) result → IsOutcome (λ (x : Reference). x ≡ r) (counting_refusals place refusals ty) result
  joined_count refusals r result e h =
      subst (λ (l : TypeRefusals). IsOutcome (λ (x : Reference). x ≡ r) (counting_refusals place l ty) result) (sym (none_given refusals (sym e))) h

-- a rule that is not broken, and one that is
pub unbroken_count : (r : Reference) (rules : TypeRefusals) → None ≡ first_type_refusal rules → IsOutcome (λ (x : Reference). x ≡ r) rules (Ok r)
unbroken_count r rules e = (none_given rules (sym e), refl)

module _ (types : TypeScope) (place : Place) where
  -- what may not be set
  pub nothing_counted : (found : Option Target) (v : Option KnownVariable) (r : Refusal TypeKind) → found ≡ None → IsTargetAs found v
      → r ≡ record { kind = TypeClash; place = place } → first_type_refusal (counted_refusals types place v) ≡ Some r
  nothing_counted None None r f h g = ap (λ (x : Refusal TypeKind). Some x) (sym g)
  nothing_counted None (Some v) r f h g = absurd h
  nothing_counted (Some t) v r f h g = absurd (none_not_some t f)

  -- a variable
  pub variable_counted : (found : Option Target) (v : Option KnownVariable) (target : Target) (result : Result Reference (Refusal TypeKind)) → found ≡ Some target → IsTargetAs found v
      → ((refusals : TypeRefusals) → target.refusal ≡ first_type_refusal refusals
      → IsOutcome (λ (x : Reference). x ≡ target.reference) (refusals ++ where_known (typing_behind refusals target.ty) (λ t. clash_unless (is_integer_type t) place)) result)
      → IsOutcome (λ (x : Reference). x ≡ counted_reference types v) (counted_refusals types place v) result
  variable_counted None v target result f h further = absurd (some_not_none target f)
  variable_counted (Some t) None target result f h further = absurd h
  variable_counted (Some t) (Some v) target result f h further =
      let k : IsHeldTarget target v = subst (λ (x : Target). IsHeldTarget x v) (inside t target f) h in
      subst (λ (r : Reference). IsOutcome (λ (x : Reference). x ≡ r) (counted_refusals types place (Some v)) result) k.reference
      (subst (λ (own : Ty). IsOutcome (λ (x : Reference). x ≡ target.reference) (counting_refusals place v.refusals own) result) k.ty (further v.refusals k.refusal))

-- what stands between `do` and its `;` is this
pub told_control : (types : TypeScope) (c form : s.DoControl) (outcome : Result TypedControl (Refusal TypeKind)) → c ≡ form
    → IsOutcome (IsHeldControl types form) (control_refusals types form) outcome → IsOutcome (IsHeldControl types c) (control_refusals types c) outcome
told_control types c form outcome e h = subst (λ (x : s.DoControl). IsOutcome (IsHeldControl types x) (control_refusals types x) outcome) (sym e) h

-- the same of an answer
pub told_answer : (types : TypeScope) (c form : s.DoControl) (result : Result (Result TypedControl (Refusal TypeKind)) OutOfMemory) → c ≡ form
    → IfOk result (IsOutcome (IsHeldControl types form) (control_refusals types form)) → IfOk result (IsOutcome (IsHeldControl types c) (control_refusals types c))
told_answer types c form result e h = subst (λ (x : s.DoControl). IfOk result (IsOutcome (IsHeldControl types x) (control_refusals types x))) (sym e) h
