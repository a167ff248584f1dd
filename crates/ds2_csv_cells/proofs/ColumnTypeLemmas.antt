-- The cells of a column, with one more.
use Rattle.std.proofs.Common.{◌≡◌, ◌<◌, ℕ, Bool, true, false, List, [], ◌∷◌, ◌++◌, length, max, refl, ap, ◌∙◌, arith, length-append}
use Rattle.std.specs.Prelude.{not, nat_lt, cond}
use Rattle.std.proofs.lemmas.Bool.Decides.{nat_tests}
use Rattle.ds2_csv_cells.specs.Cells.{is_missing}
use Rattle.ds2_csv_cells.specs.ColumnTypes.{greatest, given}

pub greatest-more : (number : List ℕ → ℕ) (cells : List (List ℕ)) (cell : List ℕ) → greatest number (cells ++ (cell ∷ [])) ≡ max (greatest number cells) (number cell)
greatest-more number [] cell = omega arith
greatest-more number (c ∷ cs) cell = ap (λ n. max (number c) n) (greatest-more number cs cell) ∙ omega arith

pub given-skips : (cells : List (List ℕ)) (cell : List ℕ) → is_missing cell ≡ true → given (cells ++ (cell ∷ [])) ≡ given cells
given-skips [] cell h = rw h refl
given-skips (c ∷ cs) cell h = ap (λ (t : List (List ℕ)). cond (not (is_missing c)) (c ∷ t) t) (given-skips cs cell h)

pub given-keeps : (cells : List (List ℕ)) (cell : List ℕ) → is_missing cell ≡ false → given (cells ++ (cell ∷ [])) ≡ given cells ++ (cell ∷ [])
given-keeps [] cell h = rw h refl
given-keeps (c ∷ cs) cell h = ap (λ (t : List (List ℕ)). cond (not (is_missing c)) (c ∷ t) t) (given-keeps cs cell h) ∙ by (not (is_missing c))
  where
    by : (b : Bool) → cond b (c ∷ (given cs ++ (cell ∷ []))) (given cs ++ (cell ∷ [])) ≡ cond b (c ∷ given cs) (given cs) ++ (cell ∷ [])
    by true = refl
    by false = refl

pub some-more : (cells : List (List ℕ)) (cell : List ℕ) → true ≡ nat_lt 0 (length (cells ++ (cell ∷ [])))
some-more cells cell = by (length (cells ++ (cell ∷ []))) (omega (arith, length-append cells (cell ∷ [])))
  where
    by : (n : ℕ) → 0 < n → true ≡ nat_lt 0 n
    by n h = grind (arith, nat_tests)
