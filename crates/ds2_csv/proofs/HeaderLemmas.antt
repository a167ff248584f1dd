-- Headings that are read one after the other.
use Rattle.std.proofs.Common.{◌≡◌, ◌≤◌, ◌+◌, ℕ, zero, suc, List, [], ◌∷◌, ◌++◌, Some, length, drop, refl, sym, ap, ◌∙◌, arith, subst}
use Rattle.std.specs.Prelude.{Result, Ok, Err}
use Rattle.std.specs.Result.{IsErrAnd}
use Rattle.csv.specs.Records.{field_at}
use Rattle.ds2_base.specs.Says.{Says}
use Rattle.ds2_base.specs.declared.stop.Stop.{Stop}
use Rattle.ds2_base.specs.declared.stop.Stop.TheVariants.{Refused, OutOfMemory}
use Rattle.ds2_csv.specs.Header.{headings_after, and_headings, distinct_heading, heading_of}
use Rattle.ds2_csv.specs.declared.heading.Heading.{Heading}
use Rattle.ds2_csv.specs.declared.refusal.CsvRefusal.{CsvRefusal}

-- the item at a place comes before those behind it
pub drop-at : (xs : List (List ℕ)) (i : ℕ) (x : List ℕ) → Some x ≡ field_at xs i → drop i xs ≡ x ∷ drop (i + 1) xs
unfolding field_at
drop-at [] i x h = cc h
drop-at (y ∷ ys) zero x h = let e : x ≡ y = cc h in ap (λ (t : List ℕ). t ∷ ys) (sym e)
drop-at (y ∷ ys) (suc i) x h = let n : suc i + 1 ≡ suc (i + 1) = omega arith in drop-at ys i x h ∙ ap (λ k. x ∷ drop k (y ∷ ys)) (sym n)

drop-all : (xs : List (List ℕ)) (i : ℕ) → length xs ≤ i → drop i xs ≡ []
drop-all [] zero h = refl
drop-all [] (suc i) h = refl
drop-all (x ∷ xs) zero h = absurd (omega arith)
drop-all (x ∷ xs) (suc i) h = drop-all xs i (omega arith)

-- the cell in front
step : (before : List Heading) (cells : List (List ℕ)) (i column : ℕ) (cell : List ℕ) (whole : Result (List Heading) CsvRefusal) → Some cell ≡ field_at cells i → column ≡ length before + 1
    → headings_after before (drop i cells) ≡ whole → and_headings (λ more. headings_after more (drop (i + 1) cells)) before (distinct_heading before column (heading_of cell)) ≡ whole
unfolding headings_after
step before cells i column cell whole here is so =
    ap (λ n. and_headings (λ more. headings_after more (drop (i + 1) cells)) before (distinct_heading before n (heading_of cell))) is
    ∙ ap (λ (t : List (List ℕ)). headings_after before t) (sym (drop-at cells i cell here)) ∙ so

-- one more heading
pub headings-took : (before new : List Heading) (h : Heading) (cells : List (List ℕ)) (i column : ℕ) (cell : List ℕ) (whole : Result (List Heading) CsvRefusal)
    → Some cell ≡ field_at cells i → column ≡ length before + 1 → distinct_heading before column (heading_of cell) ≡ Ok h → new ≡ before ++ (h ∷ [])
    → headings_after before (drop i cells) ≡ whole → headings_after new (drop (i + 1) cells) ≡ whole
headings-took before new h cells i column cell whole here is read more so =
    ap (λ (t : List Heading). headings_after t (drop (i + 1) cells)) more
    ∙ ap (λ (r : Result Heading CsvRefusal). and_headings (λ m. headings_after m (drop (i + 1) cells)) before r) (sym read) ∙ step before cells i column cell whole here is so

-- a header cell is refused, or memory ran out there
pub headings-stopped : (before : List Heading) (stop : Stop CsvRefusal) (cells : List (List ℕ)) (i column : ℕ) (cell : List ℕ) (whole : Result (List Heading) CsvRefusal)
    → Some cell ≡ field_at cells i → column ≡ length before + 1 → Says {T = Heading} (Err stop) (distinct_heading before column (heading_of cell))
    → headings_after before (drop i cells) ≡ whole → Says {T = List Heading} (Err stop) whole
headings-stopped before OutOfMemory cells i column cell whole here is read so = tt
headings-stopped before (Refused r) cells i column cell whole here is read so =
    sym (step before cells i column cell whole here is so) ∙ ap (λ (t : Result Heading CsvRefusal). and_headings (λ m. headings_after m (drop (i + 1) cells)) before t) read

pub headings-ended : (before : List Heading) (cells : List (List ℕ)) (i : ℕ) (whole : Result (List Heading) CsvRefusal) → length cells ≤ i → headings_after before (drop i cells) ≡ whole → whole ≡ Ok before
unfolding headings_after
headings-ended before cells i whole all so = sym so ∙ ap (λ (t : List (List ℕ)). headings_after before t) (drop-all cells i all)

-- what stopped an inner call is handed on
pub handed_on : {X : Type 0} (result : Result X (Stop CsvRefusal)) (stop : Stop CsvRefusal) (whole : Result X CsvRefusal) → IsErrAnd result (λ e. e ≡ stop) → Says {T = X} (Err stop) whole → Says result whole
handed_on (Ok x) stop whole same said = absurd same
handed_on {X} (Err e) stop whole same said = subst (λ (s : Stop CsvRefusal). Says {T = X} (Err s) whole) (sym same) said
