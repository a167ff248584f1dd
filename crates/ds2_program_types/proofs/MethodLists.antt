-- The methods of a unit, typed one by one.
use Rattle.std.proofs.Common.{◌≡◌, ℕ, ◌+◌, ◌<◌, ◌≤◌, List, [], ◌∷◌, ◌++◌, length, get_or, take, map, Result, refl, sym, ap, ◌∙◌, subst}
use Rattle.std.specs.Prelude.{IfOk}
use Rattle.std.proofs.lemmas.List.{append-nil, take_more, take_all}
use Rattle.ds2_elaboration.specs.UnitsBefore.{UnitsBefore}
use Rattle.ds2_base.specs.declared.place.Refusal.{Refusal}
use Rattle.ds2_base.specs.declared.stop.OutOfMemory.{OutOfMemory}
use Rattle.ds2_elaboration.specs.ProgramTypes.{method_refusals}
use Rattle.ds2_elaboration.specs.Typings.{TypeRefusals}
use Rattle.ds2_meaning.specs.declared.refusals.TypeKind.{TypeKind}
use Rattle.ds2_names.specs.NameRules.{from_each}
use Rattle.ds2_names.specs.SourceUnit.{TableColumns, source_methods, UnitSource}
use Rattle.ds2_tree.specs.Globals.{GlobalItem, Declared, Listed, Defined, Method}
use Rattle.ds2_types.specs.Judgements.{IsOutcome}
use Rattle.ds2_simple_statement_types.proofs.PartLists.{from_each-push}
use Rattle.ds2_simple_statement_types.proofs.PartOutcomes.{outcome_under}
use Rattle.ds2_program_types.specs.MethodRules.{part_rules}
use Rattle.ds2_program_types.proofs.RuleLists.{rules_of_methods}

module _ {S T : Type 0} (Are : List Method → T → Type 0) (tree : S → GlobalItem) (tables : TableColumns) (before : UnitsBefore) (u : UnitSource) where
  -- the methods among these parts of a unit
  abbrev pub methods_among : List S → List Method
  methods_among xs = source_methods (map tree xs)

  -- the rules that these parts break
  abbrev pub rules_among : List S → TypeRefusals
  rules_among xs = from_each (λ (g : S). part_rules tables before u (tree g)) xs

  -- what stands of the methods among these parts
  abbrev pub AreTypedSoFar : List S → Result T (Refusal TypeKind) → Type 0
  AreTypedSoFar xs outcome = IsOutcome (Are (methods_among xs)) (rules_among xs) outcome

  methods_push : (xs : List S) (x : S) → methods_among (xs ++ x ∷ []) ≡ methods_among xs ++ source_methods (tree x ∷ [])
  methods_push [] x = refl
  methods_push (y ∷ xs) x = by (tree y) (methods_push xs x)
    where
      by : (g : GlobalItem) → methods_among (xs ++ x ∷ []) ≡ methods_among xs ++ source_methods (tree x ∷ [])
          → source_methods (g ∷ map tree (xs ++ x ∷ [])) ≡ source_methods (g ∷ map tree xs) ++ source_methods (tree x ∷ [])
      by (Declared d) h = h
      by (Listed keyword names end) h = h
      by (Defined m) h = ap (λ (l : List Method). m ∷ l) h

  pub one_more_typed : (xs : List S) (i : ℕ) (x : S) (next : Result T (Refusal TypeKind)) → i < length xs → x ≡ get_or xs i x
      → IsOutcome (Are (methods_among (take i xs) ++ source_methods (tree x ∷ []))) (rules_among (take i xs) ++ part_rules tables before u (tree x)) next
      → AreTypedSoFar (take (i + 1) xs) next
  one_more_typed xs i x next l at h =
      let longer = take_more xs i x l ∙ ap (λ (y : S). take i xs ++ y ∷ []) (sym at) in
      let ruled = subst (λ (r : TypeRefusals). IsOutcome (Are (methods_among (take i xs) ++ source_methods (tree x ∷ []))) r next)
      (sym (from_each-push (λ (g : S). part_rules tables before u (tree g)) (take i xs) x)) h in
      let listed = subst (λ (ms : List Method). IsOutcome (Are ms) (rules_among (take i xs ++ x ∷ [])) next) (sym (methods_push (take i xs) x)) ruled in
      subst (λ (ys : List S). AreTypedSoFar ys next) (sym longer) listed

  pub all_typed : (xs : List S) (i : ℕ) (outcome : Result T (Refusal TypeKind)) → length xs ≤ i → AreTypedSoFar (take i xs) outcome
      → IsOutcome (Are (methods_among xs)) (from_each (method_refusals tables before u) (methods_among xs)) outcome
  all_typed xs i outcome l h =
      outcome_under (Are (methods_among xs)) (rules_among xs) (from_each (method_refusals tables before u) (methods_among xs)) outcome (rules_of_methods tree tables before u xs)
      (subst (λ (ys : List S). AreTypedSoFar ys outcome) (take_all i xs l) h)

  -- a part that is no method changes nothing
  pub nothing_typed : (xs : List Method) (rules : TypeRefusals) (outcome : Result T (Refusal TypeKind)) → IsOutcome (Are xs) rules outcome
      → IsOutcome (Are (xs ++ [])) (rules ++ []) outcome
  nothing_typed xs rules outcome h =
      subst (λ (ms : List Method). IsOutcome (Are ms) (rules ++ []) outcome) (sym (append-nil xs))
      (subst (λ (r : TypeRefusals). IsOutcome (Are xs) r outcome) (sym (append-nil rules)) h)

  -- a part, as the code holds it
  pub told_part : (g h : GlobalItem) (methods : List Method) (xs : TypeRefusals) (result : Result (Result T (Refusal TypeKind)) OutOfMemory) → g ≡ h
      → IfOk result (IsOutcome (Are (methods ++ source_methods (h ∷ []))) (xs ++ part_rules tables before u h))
      → IfOk result (IsOutcome (Are (methods ++ source_methods (g ∷ []))) (xs ++ part_rules tables before u g))
  told_part g h methods xs result e k =
      subst (λ (x : GlobalItem). IfOk result (IsOutcome (Are (methods ++ source_methods (x ∷ []))) (xs ++ part_rules tables before u x))) (sym e) k

  -- what stands of the methods of a unit
  pub of_unit : (as' bs : List S) (outcome : Result T (Refusal TypeKind)) → as' ≡ bs
      → IsOutcome (Are (methods_among as')) (from_each (method_refusals tables before u) (methods_among as')) outcome
      → IsOutcome (Are (methods_among bs)) (from_each (method_refusals tables before u) (methods_among bs)) outcome
  of_unit as' bs outcome e h =
      subst (λ (l : List S). IsOutcome (Are (methods_among l)) (from_each (method_refusals tables before u) (methods_among l)) outcome) e h
