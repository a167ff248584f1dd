-- The columns of an output, one by one.
use Rattle.std.proofs.Common.{◌≡◌, ℕ, Bool, true, false, ◌&&◌, if◌then◌else◌, List, [], ◌∷◌, ◌++◌, map, filter, refl, sym, ap, ◌∙◌}
use Rattle.std.proofs.lemmas.List.{append-nil}
use Rattle.ds2_tree.specs.declared.units.OutputOption.{OutputOption}
use Rattle.ds2_tree.specs.declared.units.Renaming.{Renaming}
use Rattle.ds2_meaning.specs.declared.globals.OutputColumn.{OutputColumn}
use Rattle.ds2_meaning.specs.declared.globals.Variable.{Variable}
use Rattle.ds2_names.specs.NameRules.{from_each, is_output_column, renamings_in}
use Rattle.ds2_names.specs.SourceUnit.{UnitSource}
use Rattle.ds2_elaboration.specs.ProgramTypes.{made_column}
use Rattle.ds2_given_names.specs.OutputParts.{AreStatementLists, AreOptionLists, passes_lists}
use Rattle.ds2_given_names.specs.declared.lists.KeepDrop.{KeepDrop}
use Rattle.ds2_given_names.proofs.OutputLemmas.{passes_is}
use Rattle.ds2_unit_parts.specs.TypedOutputs.{passes_both, columns_made_of}
use Rattle.ds2_unit_parts.specs.declared.outputs.OutputParts.{OutputParts}

module _ (parts : OutputParts) (variables : List Variable) (renamings : List Renaming) where
  -- the column of a variable, where it is one
  abbrev pub column_if : Bool → List ℕ → List OutputColumn
  column_if passes name = if passes then made_column variables renamings name ∷ [] else []

  column_told : (name : List ℕ) (b : Bool) → column_if b name ≡ map (made_column variables renamings) (if b then name ∷ [] else [])
  column_told name true = refl
  column_told name false = refl

  -- a variable that is let through is one column more
  pub passed_column : (name : List ℕ) (b : Bool) (old new : List OutputColumn) (own : OutputColumn) → b ≡ passes_both parts name → b ≡ true → own ≡ made_column variables renamings name
      → new ≡ old ++ own ∷ [] → new ≡ old ++ columns_made_of parts variables renamings (name ∷ [])
  passed_column name b old new own p t e n =
      n ∙ ap (λ (c : OutputColumn). old ++ c ∷ []) e ∙ ap (λ (x : Bool). old ++ column_if x name) (sym t ∙ p)
      ∙ ap (λ (l : List OutputColumn). old ++ l) (column_told name (passes_both parts name))

  -- one that is not is none
  pub no_column : (name : List ℕ) (b : Bool) (old : List OutputColumn) → b ≡ passes_both parts name → b ≡ false → old ≡ old ++ columns_made_of parts variables renamings (name ∷ [])
  no_column name b old p f =
      sym (append-nil old) ∙ ap (λ (x : Bool). old ++ column_if x name) (sym f ∙ p) ∙ ap (λ (l : List OutputColumn). old ++ l) (column_told name (passes_both parts name))

  -- one variable more
  pub column_more : (name : List ℕ) (names : List (List ℕ)) → columns_made_of parts variables renamings (name ∷ names) ≡ columns_made_of parts variables renamings (name ∷ []) ++ columns_made_of parts variables renamings names
  column_more name names = by (passes_both parts name)
    where
      by : (b : Bool)
          → map (made_column variables renamings) (if b then name ∷ filter (passes_both parts) names else filter (passes_both parts) names)
          ≡ map (made_column variables renamings) (if b then name ∷ [] else []) ++ map (made_column variables renamings) (filter (passes_both parts) names)
      by true = refl
      by false = refl

filter_alike : {A : Type 0} (p q : A → Bool) → ((x : A) → p x ≡ q x) → (xs : List A) → filter p xs ≡ filter q xs
filter_alike p q h [] = refl
filter_alike {A} p q h (x ∷ xs) = λ i. if h x i then x ∷ filter_alike p q h xs i else filter_alike p q h xs i

-- the columns of an output, by the tables of names and by the lists
pub columns_whole : (s k : KeepDrop) (variables : List Variable) (options : List OutputOption) (u : UnitSource) → AreStatementLists s u.globals → AreOptionLists k options
    → (names : List (List ℕ)) → map (made_column variables (from_each renamings_in options)) (filter (λ (name : List ℕ). passes_lists s name && passes_lists k name) names)
    ≡ map (made_column variables (from_each renamings_in options)) (filter (is_output_column u options) names)
columns_whole s k variables options u a b names =
    ap (map (made_column variables (from_each renamings_in options)))
    (filter_alike (λ (name : List ℕ). passes_lists s name && passes_lists k name) (is_output_column u options) (λ name. passes_is s k u options a b name) names)
