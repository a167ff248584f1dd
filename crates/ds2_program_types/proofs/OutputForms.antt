-- The outputs that a program makes, one by one.
use Rattle.std.proofs.Common.{◌≡◌, ℕ, ◌+◌, Bool, true, false, if◌then◌else◌, bytes_eq, List, [], ◌∷◌, ◌++◌, length, map, filter, Option, Some, None, refl, sym, ap, ◌∙◌, arith}
use Rattle.std.specs.Prelude.{not, codes, position}
use Rattle.std.specs.List.{position_from}
use Rattle.std.specs.Option.{option_or}
use Rattle.std.proofs.lemmas.Iterator.Adapters.{position_from-zero}
use Rattle.ds2_tree.specs.declared.units.OutputTable.{OutputTable}
use Rattle.ds2_names.specs.SourceUnit.{spelled_name}
use Rattle.ds2_scope.proofs.TableLemmas.{or_none}
use Rattle.ds2_program_types.specs.MadeOutputs.{names_made, made_if, number_behind_output, number_if_made}

-- the number of the first of these names that is this one, from a number on
abbrev pub number_from : ℕ → List (List ℕ) → List ℕ → Option ℕ
number_from number outputs name = position_from (λ output. bytes_eq output name) number outputs

module _ (x : Option ℕ) (number : ℕ) (rest : List (List ℕ)) (name : List ℕ) where
  same : (next : ℕ) → next ≡ number → option_or (option_or x None) (number_from next rest name) ≡ option_or x (number_from number rest name)
  same next e = ap (λ (y : Option ℕ). option_or y (number_from next rest name)) (or_none x) ∙ ap (λ (n : ℕ). option_or x (number_from n rest name)) e

  more : (own : List ℕ) (next : ℕ) → next ≡ number + 1
      → option_or (option_or x (if bytes_eq own name then Some number else None)) (number_from next rest name) ≡ option_or x (number_from number (own ∷ rest) name)
  more own next e =
      ap (λ (n : ℕ). option_or (option_or x (if bytes_eq own name then Some number else None)) (number_from n rest name)) e ∙ by (bytes_eq own name) x
    where
      by : (b : Bool) (y : Option ℕ)
          → option_or (option_or y (if b then Some number else None)) (number_from (number + 1) rest name) ≡ option_or y (if b then Some number else number_from (number + 1) rest name)
      by true None = refl
      by true (Some n) = refl
      by false y = ap (λ (z : Option ℕ). option_or z (number_from (number + 1) rest name)) (or_none y)

-- one output more
pub one_more_output : (x : Option ℕ) (number next : ℕ) (o : OutputTable) (outputs : List OutputTable) (name : List ℕ) → next ≡ number_behind_output number (made_if o)
    → option_or (option_or x (number_if_made name number (made_if o))) (number_from next (names_made outputs) name) ≡ option_or x (number_from number (names_made (o ∷ outputs)) name)
one_more_output x number next o outputs name e = by (bytes_eq (spelled_name o.table) (codes "_null_")) e
  where
    by : (b : Bool) → next ≡ number_behind_output number (if b then None else Some (spelled_name o.table))
        → option_or (option_or x (number_if_made name number (if b then None else Some (spelled_name o.table)))) (number_from next (names_made outputs) name)
        ≡ option_or x
        (number_from number
        (map (λ (p : OutputTable). spelled_name p.table)
        (if not b then o ∷ filter (λ (p : OutputTable). not (bytes_eq (spelled_name p.table) (codes "_null_"))) outputs
        else filter (λ (p : OutputTable). not (bytes_eq (spelled_name p.table) (codes "_null_"))) outputs)) name)
    by true f = same x number (names_made outputs) name next f
    by false f = more x number (names_made outputs) name (spelled_name o.table) next f

-- and how many there are
pub one_more_counted : (number next : ℕ) (o : OutputTable) (outputs : List OutputTable) → next ≡ number_behind_output number (made_if o)
    → next + length (names_made outputs) ≡ number + length (names_made (o ∷ outputs))
one_more_counted number next o outputs e = by (bytes_eq (spelled_name o.table) (codes "_null_")) e
  where
    by : (b : Bool) → next ≡ number_behind_output number (if b then None else Some (spelled_name o.table))
        → next + length (names_made outputs)
        ≡ number
        + length
        (map (λ (p : OutputTable). spelled_name p.table)
        (if not b then o ∷ filter (λ (p : OutputTable). not (bytes_eq (spelled_name p.table) (codes "_null_"))) outputs
        else filter (λ (p : OutputTable). not (bytes_eq (spelled_name p.table) (codes "_null_"))) outputs))
    by true f = ap (λ (n : ℕ). n + length (names_made outputs)) f
    by false f = omega (arith, f)

-- the numbers of all outputs
pub numbers_whole : (x : Option ℕ) (count : ℕ) (left outputs : List OutputTable) (name : List ℕ) → left ≡ []
    → option_or x (number_from count (names_made left) name) ≡ number_from 0 (names_made outputs) name → x ≡ position (λ output. bytes_eq output name) (names_made outputs)
numbers_whole x count left outputs name e h =
    sym (or_none x) ∙ sym (ap (λ (l : List OutputTable). option_or x (number_from count (names_made l) name)) e) ∙ h
    ∙ sym (position_from-zero (λ (output : List ℕ). bytes_eq output name) (names_made outputs))
