-- Rows that were taken from a text, one after the other.
use Rattle.std.proofs.Common.{◌≡◌, ◌≢◌, ◌+◌, ◌*◌, ◌≤◌, ◌==◌, ◌∷◌, ◌++◌, [], ℕ, suc, List, Bool, true, false, Some, None, length, refl, sym, ap, ◌∙◌, arith, append_assoc}
use Rattle.std.proofs.lemmas.Bool.{ne_eqb, ltb-false}
use Rattle.std.proofs.lemmas.List.{append-nil}
use Rattle.std.specs.Prelude.{if◌then◌else◌, nat_lt, Ok, Err}
use Rattle.ds2_csv_records.specs.Reading.{records_left}
use Rattle.ds2_csv.specs.Records.{Rows, odd_from}
use Rattle.ds2_csv.specs.Refusals.{of_file, of_row}
use Rattle.ds2_csv.specs.Sheet.{sheet_of}
use Rattle.ds2_csv.specs.declared.limits.TheConstants.{MOST_CELLS}
use Rattle.ds2_csv.specs.declared.refusal.CsvKind.TheVariants.{TooLarge, BadRecord}

pub odd-more : (n i : ℕ) (rs : Rows) (f : List (List ℕ)) → odd_from n i rs ≡ None → length f ≡ n → odd_from n i (rs ++ (f ∷ [])) ≡ None
unfolding odd_from
odd-more n i [] f h k = rw (k, same-n) refl
  where
    same-n : (n == n) ≡ true
    same-n = grind arith
odd-more n i (r ∷ rs) f h k = by (length r == n) h (λ g. odd-more n (i + 1) rs f g k)
  where
    by : (b : Bool) → (if b then odd_from n (i + 1) rs else Some i) ≡ None
        → (odd_from n (i + 1) rs ≡ None → odd_from n (i + 1) (rs ++ (f ∷ [])) ≡ None)
        → (if b then odd_from n (i + 1) (rs ++ (f ∷ [])) else Some i) ≡ None
    by true g more = more g
    by false g more = cc g

odd-here : (n i : ℕ) (rs more : Rows) (f : List (List ℕ)) → odd_from n i rs ≡ None → n ≢ length f → odd_from n i (rs ++ (f ∷ more)) ≡ Some (i + length rs)
unfolding odd_from
odd-here n i [] more f h k = rw (ne_eqb (length f) n (λ z. k (sym z))) (ap (λ (j : ℕ). Some j) (omega arith))
odd-here n i (r ∷ rs) more f h k = by (length r == n) h (λ g. odd-here n (i + 1) rs more f g k)
  where
    by : (b : Bool) → (if b then odd_from n (i + 1) rs else Some i) ≡ None
        → (odd_from n (i + 1) rs ≡ None → odd_from n (i + 1) (rs ++ (f ∷ more)) ≡ Some ((i + 1) + length rs))
        → (if b then odd_from n (i + 1) (rs ++ (f ∷ more)) else Some i) ≡ Some (i + suc (length rs))
    by true g more_of = more_of g ∙ ap (λ (j : ℕ). Some j) (omega arith)
    by false g more_of = cc g

-- one more row was taken, or all of them
pub left-more : (first now next : List ℕ) (rows : Rows) (row : List (List ℕ)) → rows ++ records_left now ≡ records_left first → records_left now ≡ row ∷ records_left next
    → (rows ++ (row ∷ [])) ++ records_left next ≡ records_left first
left-more first now next rows row left step = append_assoc rows (row ∷ []) (records_left next) ∙ ap (λ (r : Rows). rows ++ r) (sym step) ∙ left

pub left-all : (first now : List ℕ) (rows : Rows) → rows ++ records_left now ≡ records_left first → records_left now ≡ [] → records_left first ≡ rows
left-all first now rows left none = sym left ∙ ap (λ (r : Rows). rows ++ r) none ∙ append-nil rows

-- what rows make that were all taken, or behind which an odd one stands
pub sheet-odd : (width : ℕ) (first now : List ℕ) (rows more : Rows) (odd : List (List ℕ)) → odd_from width 1 rows ≡ None → rows ++ records_left now ≡ records_left first
    → records_left now ≡ odd ∷ more → width ≢ length odd → sheet_of width (records_left first) ≡ Err (of_row BadRecord (length rows + 1))
unfolding sheet_of
sheet-odd width first now rows more odd even left step other =
    let here : odd_from width 1 (records_left first) ≡ Some (1 + length rows) = ap (odd_from width 1) (sym left ∙ ap (λ (r : Rows). rows ++ r) step) ∙ odd-here width 1 rows more odd even other in
    let n : 1 + length rows ≡ length rows + 1 = omega arith in
    rw here (ap (λ (k : ℕ). Err (of_row BadRecord k)) n)

pub sheet-large : (width : ℕ) (rows : Rows) → odd_from width 1 rows ≡ None → nat_lt MOST_CELLS (length rows * width) ≡ true → sheet_of width rows ≡ Err (of_file TooLarge)
unfolding sheet_of
sheet-large width rows e large = rw (e, large) refl

pub sheet-whole : (width : ℕ) (rows : Rows) → odd_from width 1 rows ≡ None → nat_lt MOST_CELLS (length rows * width) ≡ false
    → (sheet_of width rows ≡ Ok (record { width = width; rows = rows })) × (length rows * width ≤ MOST_CELLS)
unfolding sheet_of
sheet-whole width rows e small = (rw (e, small) refl, ltb-false MOST_CELLS (length rows * width) small)
