-- What is known of a column's cells, with one more.
use Rattle.std.proofs.Common.{◌≡◌, ◌⊎◌, inl, inr, ℕ, Bool, true, false, List, [], ◌∷◌, ◌++◌, Option, length, max, min, refl, sym, ap, ◌∙◌, arith, unwrap_or}
use Rattle.std.specs.Prelude.{◌||◌, nat_lt, ◌&&◌}
use Rattle.std.specs.List.{list_all}
use Rattle.std.specs.Option.{is_some}
use Rattle.std.proofs.lemmas.List.Folds.{list_all-append}
use Rattle.ds2_decimal.specs.Text.{read}
use Rattle.ds2_value.specs.declared.ty.TheConstants.{TEXT_CHARACTERS}
use Rattle.ds2_value.specs.declared.ty.Ty.{Ty}
use Rattle.ds2_value.specs.declared.ty.Ty.TheVariants.{BigInt, Varchar}
use Rattle.ds2_csv_cells.specs.Cells.{is_missing}
use Rattle.ds2_csv_cells.specs.ColumnTypes.{greatest, digits_before, digits_after, text_size, given, width_of, are_integers, decimals_of, type_of_cells}
use Rattle.ds2_csv_cells.specs.Inferred.{IsInferred}
use Rattle.ds2_csv_cells.specs.Number.{integer_of}
use Rattle.ds2_csv_cells.specs.declared.inference.Inference.{Inference}
use Rattle.ds2_csv_cells.proofs.ShortLemmas.{integer-decimal}
use Rattle.ds2_csv_cells.proofs.ColumnTypeLemmas.{given-skips, given-keeps, some-more, greatest-more}

abbrev passes_integer : List ℕ → Bool
passes_integer cell = is_some (integer_of cell)

abbrev passes_decimal : List ℕ → Bool
passes_decimal cell = is_some (read cell)

all-one : (test : List ℕ → Bool) (cells : List (List ℕ)) (cell : List ℕ) → list_all test (cells ++ (cell ∷ [])) ≡ (list_all test cells && test cell)
all-one test cells cell = list_all-append test cells (cell ∷ []) ∙ ap (λ b. list_all test cells && b) (by (test cell))
  where
    by : (b : Bool) → (b && true) ≡ b
    by true = refl
    by false = refl

left-true : (a b : Bool) → (a && b) ≡ true → a ≡ true
left-true true b e = refl
left-true false b e = cc e

-- integers are decimals
all-decimals : (cells : List (List ℕ)) → list_all passes_integer cells ≡ true → list_all passes_decimal cells ≡ true
all-decimals [] e = refl
all-decimals (c ∷ cs) e = by (passes_integer c) refl e (all-decimals cs)
  where
    by : (b : Bool) → passes_integer c ≡ b → (b && list_all passes_integer cs) ≡ true → (list_all passes_integer cs ≡ true → list_all passes_decimal cs ≡ true) → (passes_decimal c && list_all passes_decimal cs) ≡ true
    by true f g more = rw (integer-decimal c f, more g) refl
    by false f g more = cc g

pub decimals-too : (i : Inference) (cells : List (List ℕ)) (cell : List ℕ) (integers decimals : Bool) → IsInferred i cells → integers ≡ (i.integers && is_some (integer_of cell))
    → decimals ≡ (integers || (i.decimals && is_some (read cell))) → decimals ≡ (i.decimals && is_some (read cell))
decimals-too i cells cell true decimals is ints decs =
    let two = both i.integers (is_some (integer_of cell)) (sym ints) in
    let all : i.decimals ≡ true = is.decimals ∙ all-decimals (given cells) (sym is.integers ∙ two.0) in
    decs ∙ sym (rw (all, integer-decimal cell two.1) refl)
  where
    both : (a b : Bool) → (a && b) ≡ true → (a ≡ true) × (b ≡ true)
    both true b e = (refl, e)
    both false b e = cc e
decimals-too i cells cell false decimals is ints decs = decs

-- a null cell
pub with-missing : (i : Inference) (cells : List (List ℕ)) (cell : List ℕ) (longest : ℕ) → IsInferred i cells → is_missing cell ≡ true → longest ≡ max (text_size cell) i.longest
    → IsInferred (record { given = i.given; integers = i.integers; decimals = i.decimals; before = i.before; after = i.after; longest = longest }) (cells ++ (cell ∷ []))
with-missing i cells cell longest is missing size =
    let same = given-skips cells cell missing in
    record {
      some = is.some ∙ ap (λ (t : List (List ℕ)). nat_lt 0 (length t)) (sym same);
      integers = is.integers ∙ ap (λ (t : List (List ℕ)). list_all passes_integer t) (sym same);
      decimals = is.decimals ∙ ap (λ (t : List (List ℕ)). list_all passes_decimal t) (sym same);
      before = λ e. is.before e ∙ ap (λ (t : List (List ℕ)). greatest digits_before t) (sym same);
      behind = λ e. is.behind e ∙ ap (λ (t : List (List ℕ)). greatest digits_after t) (sym same);
      longest = longer text_size cells cell longest i.longest size is.longest;
    }
  where
    longer : (number : List ℕ → ℕ) (cells : List (List ℕ)) (cell : List ℕ) (n m : ℕ) → n ≡ max (number cell) m → m ≡ greatest number cells → n ≡ greatest number (cells ++ (cell ∷ []))
    longer number cells cell n m e f = omega (arith, e, f, greatest-more number cells cell)

-- a cell that is not null
pub with-number : (i : Inference) (cells : List (List ℕ)) (cell : List ℕ) (integers decimals : Bool) (before after longest : ℕ) → IsInferred i cells → is_missing cell ≡ false
    → integers ≡ (i.integers && is_some (integer_of cell)) → decimals ≡ (i.decimals && is_some (read cell))
    → (decimals ≡ true → before ≡ max i.before (digits_before cell)) → (decimals ≡ true → after ≡ max i.after (digits_after cell)) → longest ≡ max (text_size cell) i.longest
    → IsInferred (record { given = true; integers = integers; decimals = decimals; before = before; after = after; longest = longest }) (cells ++ (cell ∷ []))
with-number i cells cell integers decimals before after longest is there ints decs front back size =
    let more = given-keeps cells cell there in
    record {
      some = some-more (given cells) cell ∙ ap (λ (t : List (List ℕ)). nat_lt 0 (length t)) (sym more);
      integers = ints ∙ ap (λ b. b && is_some (integer_of cell)) is.integers ∙ sym (ap (λ (t : List (List ℕ)). list_all passes_integer t) more ∙ all-one passes_integer (given cells) cell);
      decimals = decs ∙ ap (λ b. b && is_some (read cell)) is.decimals ∙ sym (ap (λ (t : List (List ℕ)). list_all passes_decimal t) more ∙ all-one passes_decimal (given cells) cell);
      before = λ e. digits digits_before before i.before (front e) (is.before (left-true i.decimals (is_some (read cell)) (sym decs ∙ e))) ∙ ap (λ (t : List (List ℕ)). greatest digits_before t) (sym more);
      behind = λ e. digits digits_after after i.after (back e) (is.behind (left-true i.decimals (is_some (read cell)) (sym decs ∙ e))) ∙ ap (λ (t : List (List ℕ)). greatest digits_after t) (sym more);
      longest = longer longest i.longest size is.longest;
    }
  where
    digits : (number : List ℕ → ℕ) (n m : ℕ) → n ≡ max m (number cell) → m ≡ greatest number (given cells) → n ≡ greatest number (given cells ++ (cell ∷ []))
    digits number n m e f = omega (arith, e, f, greatest-more number (given cells) cell)

    longer : (n m : ℕ) → n ≡ max (text_size cell) m → m ≡ greatest text_size cells → n ≡ greatest text_size (cells ++ (cell ∷ []))
    longer n m e f = omega (arith, e, f, greatest-more text_size cells cell)

-- the type out of the cells
pub type-integers : (i : Inference) (cells : List (List ℕ)) → IsInferred i cells → i.given ≡ true → i.integers ≡ true → BigInt ≡ type_of_cells cells
unfolding type_of_cells
type-integers i cells is some all = rw (sym is.some ∙ some, sym is.integers ∙ all) refl

pub type-others : (i : Inference) (cells : List (List ℕ)) (found : Option Ty) (longest : ℕ) → IsInferred i cells → (i.given ≡ false) ⊎ (i.integers ≡ false) → found ≡ decimals_of (given cells)
    → longest ≡ max 1 (min TEXT_CHARACTERS i.longest) → unwrap_or found (Varchar longest) ≡ type_of_cells cells
unfolding type_of_cells
type-others i cells found longest is odd numbers size =
    let text : longest ≡ width_of cells = omega (arith, size, is.longest) in
    let none : are_integers (given cells) ≡ false = ap (λ b. b && list_all passes_integer (given cells)) (sym is.some) ∙ ap (λ b. i.given && b) (sym is.integers) ∙ by i.given i.integers odd in
    rw (none, numbers, text) refl
  where
    by : (a b : Bool) → (a ≡ false) ⊎ (b ≡ false) → (a && b) ≡ false
    by true b (inl e) = cc e
    by true b (inr e) = e
    by false b e = refl
