-- What stands of two parts, and of a form that is made of one.
use Rattle.std.proofs.Common.{◌≡◌, ◌++◌, [], Option, Some, None, Result, Ok, Err, refl, sym, ap, ◌∙◌, subst}
use Rattle.ds2_base.specs.declared.place.Refusal.{Refusal}
use Rattle.ds2_base.specs.declared.stop.OutOfMemory.{OutOfMemory}
use Rattle.std.specs.declared.boxed.Box.{Box}
use Rattle.std.specs.declared.alloc.Global.{Global}
use Rattle.ds2_elaboration.specs.Typings.{TypeRefusals}
use Rattle.ds2_meaning.specs.TypedStatement.{TypedStatement}
use Rattle.ds2_meaning.specs.declared.refusals.TypeKind.{TypeKind}
use Rattle.ds2_meaning.specs.declared.statements.Statement.{Statement}
use Rattle.ds2_types.specs.Judgements.{first_type_refusal, IsOutcome}
use Rattle.ds2_types.proofs.Outcomes.{none_behind, given_behind, given_before, given_of_both}
use Rattle.ds2_simple_statement_types.specs.BothParts.{both_parts}
use Rattle.ds2_simple_statement_types.specs.StatementOutcomes.{boxed_tree, IsStatementAs, StandsAs, refusal_in}
use Rattle.ds2_simple_statement_types.specs.declared.parts.Both.{Both}

-- both parts are what they are
abbrev pub AreBoth : {A B : Type 0} → (A → Type 0) → (B → Type 0) → Both A B → Type 0
AreBoth IsA IsB p = IsA p.first × IsB p.second

module _ {A B : Type 0} (IsA : A → Type 0) (IsB : B → Type 0) (xs ys : TypeRefusals) where
  after_parts : (a : Result A (Refusal TypeKind)) (b : Result B (Refusal TypeKind)) → IsOutcome IsA xs a → IsOutcome IsB ys b
      → IsOutcome (AreBoth IsA IsB) (xs ++ ys) (both_parts a b)
  after_parts (Ok a) (Ok b) h k = (none_behind xs ys h.0 k.0, (h.1, k.1))
  after_parts (Ok a) (Err q) h k = given_behind xs ys q h.0 k
  after_parts (Err p) (Ok b) h k = given_before xs ys p h k.0
  after_parts (Err p) (Err q) h k = given_of_both xs ys p q h k

  -- what stands of two parts
  pub both_stand : (a : Result A (Refusal TypeKind)) (b : Result B (Refusal TypeKind)) (result : Result (Both A B) (Refusal TypeKind)) → IsOutcome IsA xs a → IsOutcome IsB ys b
      → result ≡ both_parts a b → IsOutcome (AreBoth IsA IsB) (xs ++ ys) result
  both_stand a b result h k e = subst (IsOutcome (AreBoth IsA IsB) (xs ++ ys)) (sym e) (after_parts a b h k)

-- what stands of something that is this
pub stands_of : {A : Type 0} (IsSo : A → Type 0) (refusals : TypeRefusals) (outcome given : Result A (Refusal TypeKind)) → IsOutcome IsSo refusals outcome → outcome ≡ given
    → IsOutcome IsSo refusals given
stands_of IsSo refusals outcome given h e = subst (IsOutcome IsSo refusals) e h

-- what stands of something follows from what else does
pub outcome_as : {A : Type 0} (IsSo IsThus : A → Type 0) (refusals : TypeRefusals) (outcome : Result A (Refusal TypeKind)) → ((x : A) → IsSo x → IsThus x) → IsOutcome IsSo refusals outcome
    → IsOutcome IsThus refusals outcome
outcome_as IsSo IsThus refusals (Ok x) f h = (h.0, f x h.1)
outcome_as IsSo IsThus refusals (Err r) f h = h

-- under the same rules
pub outcome_under : {A : Type 0} (IsSo : A → Type 0) (xs ys : TypeRefusals) (outcome : Result A (Refusal TypeKind)) → xs ≡ ys → IsOutcome IsSo xs outcome → IsOutcome IsSo ys outcome
outcome_under IsSo xs ys outcome e h = subst (λ (l : TypeRefusals). IsOutcome IsSo l outcome) e h

-- what becomes of a statement, unless memory ran out
abbrev pub Results : Type 0
Results = Result (Result (Box Statement Global) (Refusal TypeKind)) OutOfMemory

-- a statement that breaks these rules and becomes this
pub stands_as : (xs ys : TypeRefusals) (a b : TypedStatement) (result : Result (Result (Box Statement Global) (Refusal TypeKind)) OutOfMemory) → xs ≡ ys → a ≡ b → StandsAs ys b result
    → StandsAs xs a result
stands_as xs ys a b result e f h =
    subst (λ (l : TypeRefusals). StandsAs l a result) (sym e) (subst (λ (n : TypedStatement). StandsAs ys n result) (sym f) h)

-- the broken rule that is given of what stands
pub given_in : {A : Type 0} (IsSo : A → Type 0) (refusals : TypeRefusals) (outcome : Result A (Refusal TypeKind)) → IsOutcome IsSo refusals outcome → first_type_refusal refusals ≡ refusal_in outcome
given_in IsSo refusals (Ok x) h = ap first_type_refusal h.0
given_in IsSo refusals (Err r) h = h
