-- Parts in a list, one by one.
use Rattle.std.proofs.Common.{◌≡◌, ℕ, ◌+◌, ◌<◌, ◌≤◌, List, [], ◌∷◌, ◌++◌, length, get_or, take, map, Result, Ok, Err, refl, sym, ap, ◌∙◌, subst, append_assoc}
use Rattle.std.proofs.lemmas.List.{append-nil, take_more, take_all}
use Rattle.ds2_base.specs.declared.place.Refusal.{Refusal}
use Rattle.ds2_elaboration.specs.Typings.{TypeRefusals}
use Rattle.ds2_meaning.specs.declared.refusals.TypeKind.{TypeKind}
use Rattle.ds2_names.specs.NameRules.{from_each}
use Rattle.ds2_types.specs.Judgements.{IsOutcome}
use Rattle.ds2_types.proofs.Outcomes.{none_behind, given_behind, given_before, given_of_both}
use Rattle.ds2_expression_types.proofs.ArgumentLists.{map-push}
use Rattle.ds2_simple_statement_types.specs.BothParts.{with_one}
use Rattle.ds2_simple_statement_types.specs.StatementOutcomes.{AreTypedAs}

pub from_each-push : {A B : Type 0} (f : A → List B) (xs : List A) (x : A) → from_each f (xs ++ x ∷ []) ≡ from_each f xs ++ f x
from_each-push f [] x = append-nil (f x)
from_each-push {A} {B} f (y ∷ xs) x = ap (λ (l : List B). f y ++ l) (from_each-push f xs x) ∙ sym (append_assoc (f y) (from_each f xs) (f x))

module _ {A B : Type 0} (view : A → B) where
  -- one part behind others
  pub one_behind : (xs ys : TypeRefusals) (parts : List B) (part : B) (items : Result (List A) (Refusal TypeKind)) (one : Result A (Refusal TypeKind)) → AreTypedAs view xs parts items
      → IsOutcome (λ (a : A). view a ≡ part) ys one → AreTypedAs view (xs ++ ys) (parts ++ part ∷ []) (with_one items one)
  one_behind xs ys parts part (Ok items) (Ok a) h k =
      (none_behind xs ys h.0 k.0, map-push view items a ∙ ap (λ (l : List B). l ++ view a ∷ []) h.1 ∙ ap (λ (b : B). parts ++ b ∷ []) k.1)
  one_behind xs ys parts part (Ok items) (Err q) h k = given_behind xs ys q h.0 k
  one_behind xs ys parts part (Err p) (Ok a) h k = given_before xs ys p h k.0
  one_behind xs ys parts part (Err p) (Err q) h k = given_of_both xs ys p q h k

module _ {S A B : Type 0} (view : A → B) (rules : S → TypeRefusals) (form : S → B) where
  -- what stands of parts, each of what stands in a list
  abbrev pub AreParts : List S → Result (List A) (Refusal TypeKind) → Type 0
  AreParts xs items = AreTypedAs view (from_each rules xs) (map form xs) items

  pub no_part : (xs : List S) (none : List A) → none ≡ [] → AreParts (take 0 xs) (Ok none)
  no_part xs none e = (refl, ap (λ (l : List A). map view l) e)

  pub one_part : (xs : List S) (i : ℕ) (x : S) (items next : Result (List A) (Refusal TypeKind)) (one : Result A (Refusal TypeKind)) → i < length xs → x ≡ get_or xs i x
      → AreParts (take i xs) items → IsOutcome (λ (a : A). view a ≡ form x) (rules x) one → next ≡ with_one items one → AreParts (take (i + 1) xs) next
  one_part xs i x items next one l at h k e =
      let longer = take_more xs i x l ∙ ap (λ (y : S). take i xs ++ y ∷ []) (sym at) in
      let so = subst (AreTypedAs view (from_each rules (take i xs) ++ rules x) (map form (take i xs) ++ form x ∷ [])) (sym e)
      (one_behind view (from_each rules (take i xs)) (rules x) (map form (take i xs)) (form x) items one h k) in
      let ruled = subst (λ (r : TypeRefusals). AreTypedAs view r (map form (take i xs) ++ form x ∷ []) next) (sym (from_each-push rules (take i xs) x)) so in
      let formed = subst (λ (f : List B). AreTypedAs view (from_each rules (take i xs ++ x ∷ [])) f next) (sym (map-push form (take i xs) x)) ruled in
      subst (λ (ys : List S). AreParts ys next) (sym longer) formed

  pub all_parts : (xs : List S) (i : ℕ) (items : Result (List A) (Refusal TypeKind)) → length xs ≤ i → AreParts (take i xs) items → AreParts xs items
  all_parts xs i items l h = subst (λ (ys : List S). AreParts ys items) (take_all i xs l) h
