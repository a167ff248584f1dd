-- Tables of `output`, once it is told whether they are outputs.
use Rattle.std.proofs.Common.{◌≡◌, ℕ, ◌+◌, ◌||◌, Bool, true, false, if◌then◌else◌, List, [], ◌∷◌, ◌++◌, length, map, Option, Some, None, Result, refl, sym, ap, ◌∙◌, subst, arith}
use Rattle.std.specs.List.{range_with_len, position_from}
use Rattle.std.proofs.lemmas.Iterator.Adapters.{position_from-zero}
use Rattle.std.proofs.lemmas.List.FromFn.{map-range_with_len_more}
use Rattle.std.specs.Prelude.{nat_eq, bytes_eq, position, unwrap_or, is_some}
use Rattle.std.specs.Cmp.Lexicographic.{pointwise}
use Rattle.std.specs.HashMap.{get}
use Rattle.ds2_base.specs.declared.place.Place.{Place}
use Rattle.ds2_base.specs.declared.place.Refusal.{Refusal}
use Rattle.ds2_token.specs.declared.token.Token.{Token}
use Rattle.ds2_meaning.specs.ProgramTree.{is_listed}
use Rattle.ds2_meaning.specs.TypedStatement as t
use Rattle.ds2_meaning.specs.declared.refusals.TypeKind.{TypeKind}
use Rattle.ds2_meaning.specs.declared.refusals.TypeKind.TheVariants.{TypeClash}
use Rattle.ds2_names.specs.NameRules.{from_each}
use Rattle.ds2_names.specs.SourceUnit.{spelled_name}
use Rattle.ds2_elaboration.specs.ExpressionTypes.{TypeScope}
use Rattle.ds2_elaboration.specs.StatementTypes.{written_refusals, output_numbers}
use Rattle.ds2_elaboration.specs.Typings.{TypeRefusals, clash_unless}
use Rattle.ds2_types.specs.Judgements.{first_type_refusal}
use Rattle.ds2_simple_statement_types.specs.MethodScopes.{IsMethodScope}
use Rattle.ds2_simple_statement_types.specs.StatementOutcomes.{StandsAs}
use Rattle.ds2_simple_statement_types.specs.ReturnedAndWritten.{as_it_is, output_number}
use Rattle.ds2_simple_statement_types.specs.declared.method_scope.MethodScope.{MethodScope}
use Rattle.ds2_simple_statement_types.proofs.PartOutcomes.{stands_as, Results}

-- the first place at which a name stands, from this number on
abbrev place_from : ℕ → List (List ℕ) → List ℕ → Option ℕ
place_from n outputs name = position_from (λ output. bytes_eq output name) n outputs

listed_from : (n : ℕ) (outputs : List (List ℕ)) (name : List ℕ) → is_listed outputs name ≡ is_some (place_from n outputs name)
listed_from n [] name = refl
listed_from n (output ∷ outputs) name = by (bytes_eq output name) (listed_from (n + 1) outputs name)
  where
    by : (b : Bool) → is_listed outputs name ≡ is_some (place_from (n + 1) outputs name) → (b || is_listed outputs name) ≡ is_some (if b then Some n else place_from (n + 1) outputs name)
    by true h = refl
    by false h = h

-- a name is an output where it has a number
listed_as : (outputs : List (List ℕ)) (name : List ℕ) (found : Option ℕ) → position (λ output. bytes_eq output name) outputs ≡ found → is_listed outputs name ≡ is_some found
listed_as outputs name found e =
    listed_from 0 outputs name ∙ ap is_some (sym (position_from-zero (λ output. bytes_eq output name) outputs) ∙ e)

module _ (types : TypeScope) (scope : MethodScope) (table : Token) (spelled : List ℕ) (found : Option ℕ) (s : IsMethodScope types scope) (e : spelled ≡ spelled_name table)
    (f : found ≡ get (pointwise nat_eq) scope.outputs.now spelled) where
  told : (given : Option ℕ) → found ≡ given → position (λ output. bytes_eq output (spelled_name table)) types.outputs ≡ given
  told given g = sym (s.outputs (spelled_name table)) ∙ ap (λ (n : List ℕ). get (pointwise nat_eq) scope.outputs.now n) (sym e) ∙ sym f ∙ g

  -- a table that is no output
  pub not_written : (r : Refusal TypeKind) → found ≡ None → r ≡ record { kind = TypeClash; place = table.place } → first_type_refusal (written_refusals types table) ≡ Some r
  not_written r g h =
      ap (λ (b : Bool). first_type_refusal (clash_unless b table.place)) (listed_as types.outputs (spelled_name table) None (told None g)) ∙ ap (λ (x : Refusal TypeKind). Some x) (sym h)

  -- an output
  pub is_written : (n : ℕ) → found ≡ Some n → (written_refusals types table ≡ []) × (n ≡ output_number types.outputs table)
  is_written n g = (
    ap (λ (b : Bool). clash_unless b table.place) (listed_as types.outputs (spelled_name table) (Some n) (told (Some n) g)),
    sym (ap (λ (o : Option ℕ). unwrap_or o 0) (told (Some n) g)),
  )

-- a list as it is
pub same_list : {A : Type 0} (xs : List A) → map as_it_is xs ≡ xs
same_list [] = refl
same_list {A} (x ∷ xs) = ap (λ (l : List A). x ∷ l) (same_list xs)

-- one number more
pub one_number_more : (n : ℕ) → range_with_len 0 (n + 1) ≡ range_with_len 0 n ++ n ∷ []
one_number_more n =
    sym (same_list (range_with_len 0 (n + 1))) ∙ map-range_with_len_more (as_it_is {A = ℕ}) 0 n n (omega arith)
    ∙ ap (λ (l : List ℕ). l ++ n ∷ []) (same_list (range_with_len 0 n))

-- no table is named
pub every_output : (types : TypeScope) (place : Place) (tables : List Token) (count : ℕ) (result : Results) → tables ≡ [] → count ≡ length types.outputs
    → StandsAs [] (t.Output place (range_with_len 0 count)) result → StandsAs (from_each (written_refusals types) tables) (t.Output place (output_numbers types.outputs tables)) result
every_output types place tables count result e f h =
    stands_as _ _ _ _ result (ap (from_each (written_refusals types)) e)
    (ap (λ (l : List Token). t.Output place (output_numbers types.outputs l)) e ∙ ap (λ (n : ℕ). t.Output place (range_with_len 0 n)) (sym f)) h

-- some are named
pub named_outputs : (types : TypeScope) (place : Place) (tables : List Token) (result : Results) → (tables ≡ [] → ⊥)
    → StandsAs (from_each (written_refusals types) tables) (t.Output place (map (output_number types.outputs) tables)) result
    → StandsAs (from_each (written_refusals types) tables) (t.Output place (output_numbers types.outputs tables)) result
named_outputs types place [] result e h = absurd (e refl)
named_outputs types place (table ∷ tables) result e h = h
