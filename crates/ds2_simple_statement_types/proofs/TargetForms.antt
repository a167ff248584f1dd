-- Variables that statements set, once it is told what they are.
use Rattle.std.proofs.Common.{◌≡◌, ℕ, Bool, true, false, if◌then◌else◌, List, [], ◌∷◌, ◌++◌, Option, Some, None, Result, Ok, Err, refl, sym, ap, ◌∙◌, subst}
use Rattle.std.specs.Prelude.{IfOk}
use Rattle.std.specs.declared.boxed.Box.{Box}
use Rattle.std.specs.declared.alloc.Global.{Global}
use Rattle.ds2_base.specs.declared.place.Place.{Place}
use Rattle.ds2_base.specs.declared.place.Refusal.{Refusal}
use Rattle.ds2_base.specs.declared.stop.OutOfMemory.{OutOfMemory}
use Rattle.ds2_token.specs.declared.token.Token.{Token}
use Rattle.ds2_value.specs.declared.ty.Ty.{Ty}
use Rattle.ds2_meaning.specs.TypedStatement as t
use Rattle.ds2_meaning.specs.declared.location.Reference.{Reference}
use Rattle.ds2_meaning.specs.declared.refusals.TypeKind.{TypeKind}
use Rattle.ds2_meaning.specs.declared.refusals.TypeKind.TheVariants.{TypeClash}
use Rattle.ds2_meaning.specs.declared.statements.Statement.{Statement}
use Rattle.ds2_names.specs.Refusals.{type_rank, first_of_both}
use Rattle.ds2_names.specs.SourceUnit.{spelled_name}
use Rattle.ds2_elaboration.specs.ExpressionTypes.{TypeScope, KnownVariable, variable_typing, known_variable, is_settable_reference}
use Rattle.ds2_elaboration.specs.StatementTypes.{settable_variable, target_of, target_refusals, assignment_refusals, assignment_node}
use Rattle.ds2_elaboration.specs.Typings.{TypeRefusals, ElaboratedExpression, typing_behind, assigned_refusals, assigned_node}
use Rattle.ds2_types.specs.Judgements.{first_type_refusal, lesser_refusal, IsOutcome}
use Rattle.ds2_types.specs.declared.judgement.Node.{Node}
use Rattle.ds2_types.proofs.Outcomes.{IsTree}
use Rattle.ds2_types.proofs.RefusalOrder.{least_append, none_given}
use Rattle.ds2_reference_types.specs.Scopes.{reference_of, known_in, IsKnownVariable, IsKnownAs, IsScopeOf}
use Rattle.ds2_reference_types.specs.declared.scopes.KnownName.{KnownName}
use Rattle.ds2_reference_types.specs.declared.scopes.Scope.{Scope}
use Rattle.ds2_reference_types.proofs.KnownNames.{none_not_some, some_not_none, inside}
use Rattle.ds2_simple_statement_types.specs.StatementOutcomes.{refusal_in, StandsAs}
use Rattle.ds2_simple_statement_types.specs.Targets.{IsTargetOf, IsHeldTarget, IsTargetAs}
use Rattle.ds2_simple_statement_types.specs.declared.targets.Target.{Target}
use Rattle.ds2_simple_statement_types.proofs.PartOutcomes.{given_in}

-- ---- what a name stands for

-- what may be set, where a test holds
set_if : (b : Bool) (t : Target) (v : KnownVariable) → b ≡ true → IsHeldTarget t v → IsTargetAs (Some t) (if b then Some v else None)
set_if true t v e h = h
set_if false t v e h = cc

unset_if : (b : Bool) (v : KnownVariable) → b ≡ false → IsTargetAs None (if b then Some v else None)
unset_if true v e = cc
unset_if false v e = tt

module _ (k : KnownName) (v : KnownVariable) (h : IsKnownVariable k v) where
  -- a variable that may be set
  pub may_be_set : (t : Target) (settable : Bool) → IsTargetOf t k → settable ≡ is_settable_reference (reference_of k.standing k.name) → settable ≡ true
      → IsTargetAs (Some t) (settable_variable (Some v))
  may_be_set t settable o e f =
      set_if (is_settable_reference v.reference) t v (ap is_settable_reference (sym h.reference) ∙ sym e ∙ f)
      (record { reference = o.reference ∙ h.reference; ty = o.ty ∙ h.ty; refusal = o.refusal ∙ h.refusal })

  -- a flag
  pub may_not_be_set : (settable : Bool) → settable ≡ is_settable_reference (reference_of k.standing k.name) → settable ≡ false → IsTargetAs None (settable_variable (Some v))
  may_not_be_set settable e f = unset_if (is_settable_reference v.reference) v (ap is_settable_reference (sym h.reference) ∙ sym e ∙ f)

sets_nothing : (k : Option KnownName) (v : Option KnownVariable) → k ≡ None → IsKnownAs k v → IsTargetAs None (settable_variable v)
sets_nothing None None e h = tt
sets_nothing None (Some v) e h = absurd h
sets_nothing (Some k) v e h = absurd (none_not_some k e)

sets_something : (k : Option KnownName) (v : Option KnownVariable) (known : KnownName) (result : Result (Option Target) OutOfMemory) → k ≡ Some known → IsKnownAs k v
    → ((own : KnownVariable) → IsKnownVariable known own → IfOk result (λ (t : Option Target). IsTargetAs t (settable_variable (Some own))))
    → IfOk result (λ (t : Option Target). IsTargetAs t (settable_variable v))
sets_something None v known result e h further = absurd (some_not_none known e)
sets_something (Some k) None known result e h further = absurd h
sets_something (Some k) (Some v) known result e h further = further v (subst (λ (n : KnownName). IsKnownVariable n v) (inside k known e) h)

module _ (types : TypeScope) (scope : Scope) (name : Token) (spelled : List ℕ) (found : Option KnownName) where
  pub no_target : IsScopeOf types scope → spelled ≡ spelled_name name → found ≡ known_in scope spelled → found ≡ None → IsTargetAs None (target_of types name)
  no_target s e f g =
      sets_nothing (known_in scope (spelled_name name)) (known_variable types (spelled_name name)) (ap (known_in scope) (sym e) ∙ sym f ∙ g) (s.variables (spelled_name name))

  pub a_target : (known : KnownName) (result : Result (Option Target) OutOfMemory) → IsScopeOf types scope → spelled ≡ spelled_name name → found ≡ known_in scope spelled
      → found ≡ Some known
      → ((own : KnownVariable) → IsKnownVariable known own → IfOk result (λ (t : Option Target). IsTargetAs t (settable_variable (Some own))))
      → IfOk result (λ (t : Option Target). IsTargetAs t (target_of types name))
  a_target known result s e f g further =
      sets_something (known_in scope (spelled_name name)) (known_variable types (spelled_name name)) known result (ap (known_in scope) (sym e) ∙ sym f ∙ g)
      (s.variables (spelled_name name)) further

-- ---- assignments

module _ (place : Place) (e : ElaboratedExpression) (ty : Ty) where
  -- a column whose tables do not join
  pub unjoined_target : (refusals : TypeRefusals) (own given : Refusal TypeKind) (outcome : Result Node (Refusal TypeKind)) → Some own ≡ first_type_refusal refusals
      → IsOutcome (IsTree e.node) e.refusals outcome → Some given ≡ lesser_refusal (Some own) (refusal_in outcome)
      → first_type_refusal (target_refusals place refusals e (typing_behind refusals ty)) ≡ Some given
  unjoined_target [] own given outcome o h g = absurd (none_not_some own o)
  unjoined_target (q ∷ qs) own given outcome o h g =
      least_append (q ∷ qs) e.refusals
      ∙ ap (λ (x : Option (Refusal TypeKind)). lesser_refusal x (first_type_refusal e.refusals)) (sym o)
      ∙ ap (lesser_refusal (Some own)) (given_in (IsTree e.node) e.refusals outcome h) ∙ sym g

  -- another variable
  pub joined_target : (refusals : TypeRefusals) (node : t.TypedStatement) (result : Result (Result (Box Statement Global) (Refusal TypeKind)) OutOfMemory)
      → None ≡ first_type_refusal refusals → StandsAs (assigned_refusals ty place e) node result
      → StandsAs (target_refusals place refusals e (typing_behind refusals ty)) node result
  joined_target refusals node result o h =
      subst (λ (r : TypeRefusals). StandsAs (target_refusals place r e (typing_behind r ty)) node result) (sym (none_given refusals (sym o))) h

module _ (types : TypeScope) (place : Place) (e : ElaboratedExpression) where
  -- what may not be set
  pub nothing_assigned : (found : Option Target) (v : Option KnownVariable) (r : Refusal TypeKind) → found ≡ None → IsTargetAs found v
      → r ≡ record { kind = TypeClash; place = place } → first_type_refusal (assignment_refusals types place v e) ≡ Some r
  nothing_assigned None None r f h g = ap (λ (x : Refusal TypeKind). Some x) (sym g)
  nothing_assigned None (Some v) r f h g = absurd h
  nothing_assigned (Some held) v r f h g = absurd (none_not_some held f)

  -- a variable
  pub variable_assigned : (found : Option Target) (v : Option KnownVariable) (target : Target) (result : Result (Result (Box Statement Global) (Refusal TypeKind)) OutOfMemory)
      → found ≡ Some target → IsTargetAs found v
      → ((refusals : TypeRefusals) → target.refusal ≡ first_type_refusal refusals
      → StandsAs (target_refusals place refusals e (typing_behind refusals target.ty)) (t.Assign place target.reference (assigned_node target.ty e)) result)
      → StandsAs (assignment_refusals types place v e) (assignment_node types place v e) result
  variable_assigned None v target result f h further = absurd (some_not_none target f)
  variable_assigned (Some held) None target result f h further = absurd h
  variable_assigned (Some held) (Some v) target result f h further =
      let k : IsHeldTarget target v = subst (λ (x : Target). IsHeldTarget x v) (inside held target f) h in
      subst (λ (r : Reference). StandsAs (target_refusals place v.refusals e (typing_behind v.refusals v.ty)) (t.Assign place r (assigned_node v.ty e)) result) k.reference
      (subst (λ (own : Ty). StandsAs (target_refusals place v.refusals e (typing_behind v.refusals own)) (t.Assign place target.reference (assigned_node own e)) result) k.ty
      (further v.refusals k.refusal))
