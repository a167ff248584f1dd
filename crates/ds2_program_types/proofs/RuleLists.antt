-- The broken rule that is given of parts, one by one.
use Rattle.std.proofs.Common.{◌≡◌, ℕ, ◌+◌, ◌<◌, ◌≤◌, List, [], ◌∷◌, ◌++◌, length, get_or, take, map, Option, Result, Ok, Err, Some, None, refl, sym, ap, ◌∙◌, subst}
use Rattle.std.proofs.lemmas.List.{take_more, take_all}
use Rattle.ds2_elaboration.specs.UnitsBefore.{UnitsBefore}
use Rattle.ds2_base.specs.declared.place.Refusal.{Refusal}
use Rattle.ds2_elaboration.specs.Typings.{TypeRefusals}
use Rattle.ds2_meaning.specs.declared.refusals.TypeKind.{TypeKind}
use Rattle.ds2_names.specs.NameRules.{from_each}
use Rattle.ds2_tree.specs.Globals.{GlobalItem, Declared, Listed, Defined}
use Rattle.ds2_names.specs.SourceUnit.{TableColumns, source_methods, UnitSource}
use Rattle.ds2_elaboration.specs.ProgramTypes.{method_refusals}
use Rattle.ds2_types.specs.Judgements.{first_type_refusal, lesser_refusal, IsOutcome}
use Rattle.ds2_types.proofs.Outcomes.{given_before, given_of_both}
use Rattle.ds2_types.proofs.RefusalOrder.{least_append, none_given}
use Rattle.ds2_simple_statement_types.proofs.PartLists.{from_each-push}
use Rattle.ds2_program_types.specs.MethodRules.{part_rules, under_rule}

module _ {S : Type 0} (rules : S → TypeRefusals) where
  -- the broken rule that is given of these parts
  abbrev pub given_of : List S → Option (Refusal TypeKind)
  given_of xs = first_type_refusal (from_each rules xs)

  pub one_more_ruled : (xs : List S) (i : ℕ) (x : S) (found own next : Option (Refusal TypeKind)) → i < length xs → x ≡ get_or xs i x → found ≡ given_of (take i xs)
      → own ≡ first_type_refusal (rules x) → next ≡ lesser_refusal found own → next ≡ given_of (take (i + 1) xs)
  one_more_ruled xs i x found own next l at h k e =
      e ∙ ap (λ (o : Option (Refusal TypeKind)). lesser_refusal o own) h ∙ ap (lesser_refusal (given_of (take i xs))) k
      ∙ sym
      (ap given_of (take_more xs i x l ∙ ap (λ (y : S). take i xs ++ y ∷ []) (sym at)) ∙ ap first_type_refusal (from_each-push rules (take i xs) x)
      ∙ least_append (from_each rules (take i xs)) (rules x))

  pub all_ruled : (xs : List S) (i : ℕ) (found : Option (Refusal TypeKind)) → length xs ≤ i → found ≡ given_of (take i xs) → found ≡ given_of xs
  all_ruled xs i found l h = h ∙ ap given_of (take_all i xs l)

-- the rules of the methods among the parts of a unit
pub rules_of_methods : {S : Type 0} (tree : S → GlobalItem) (tables : TableColumns) (before : UnitsBefore) (u : UnitSource) (globals : List S)
    → from_each (λ (g : S). part_rules tables before u (tree g)) globals ≡ from_each (method_refusals tables before u) (source_methods (map tree globals))
rules_of_methods tree tables before u [] = refl
rules_of_methods tree tables before u (g ∷ gs) = ap (λ (r : TypeRefusals). part_rules tables before u (tree g) ++ r) (rules_of_methods tree tables before u gs) ∙ by (tree g)
  where
    by : (x : GlobalItem)
        → part_rules tables before u x ++ from_each (method_refusals tables before u) (source_methods (map tree gs)) ≡ from_each (method_refusals tables before u) (source_methods (x ∷ map tree gs))
    by (Declared d) = refl
    by (Listed keyword names end) = refl
    by (Defined m) = refl

-- what stands beside a rule
pub stands_under : {A : Type 0} (IsSo : A → Type 0) (rules refusals : TypeRefusals) (rule : Option (Refusal TypeKind)) (outcome result : Result A (Refusal TypeKind))
    → rule ≡ first_type_refusal rules → IsOutcome IsSo refusals outcome → result ≡ under_rule rule outcome → IsOutcome IsSo (rules ++ refusals) result
stands_under {A} IsSo rules refusals rule outcome result g h e = subst (IsOutcome IsSo (rules ++ refusals)) (sym e) (by rule outcome g h)
  where
    by : (r : Option (Refusal TypeKind)) (o : Result A (Refusal TypeKind)) → r ≡ first_type_refusal rules → IsOutcome IsSo refusals o → IsOutcome IsSo (rules ++ refusals) (under_rule r o)
    by None o g h = subst (λ (l : TypeRefusals). IsOutcome IsSo (l ++ refusals) o) (sym (none_given rules (sym g))) h
    by (Some own) (Ok x) g h = given_before rules refusals own (sym g) h.0
    by (Some own) (Err q) g h = given_of_both rules refusals own q (sym g) h
