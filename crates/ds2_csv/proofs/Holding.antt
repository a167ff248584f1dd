-- What holds of each column, with one more cell or row.
use Rattle.std.proofs.Common.{◌≡◌, ◌≤◌, ℕ, zero, suc, List, [], ◌∷◌, ◌++◌, Option, Some, None, length, refl, sym, ap, subst, ◌∙◌, arith, slice_get, inl, inr}
use Rattle.std.specs.Prelude.{slice_set}
use Rattle.std.specs.Option.{option_map_or}
use Rattle.std.proofs.lemmas.List.{map-append, append-nil}
use Rattle.std.proofs.lemmas.Option.{slice_get_within}
use Rattle.std.proofs.lemmas.Bool.{cases_eq}
use Rattle.ds2_csv.specs.Columns.{cell_at, cells_of}
use Rattle.ds2_csv.specs.Known.{HoldIn, HoldTo, cell_in_part}
use Rattle.ds2_csv.specs.Records.{Rows}

-- the cells of a column in rows and one more
pub cells-last : (column : ℕ) (rows : Rows) (row : List (List ℕ)) → cells_of column (rows ++ (row ∷ [])) ≡ cells_of column rows ++ (cell_at column row ∷ [])
cells-last column rows row = map-append (cell_at column) rows (row ∷ [])

pub set-length : {X : Type 0} (items : List X) (i : ℕ) (y : X) → length (slice_set items i y) ≡ length items
set-length [] i y = refl
set-length (z ∷ zs) zero y = refl
set-length (z ∷ zs) (suc i) y = ap (λ n. suc n) (set-length zs i y)

pub set-here : {X : Type 0} (items : List X) (i : ℕ) (y x : X) → slice_get (slice_set items i y) i ≡ Some x → y ≡ x
set-here [] i y x h = cc h
set-here (z ∷ zs) zero y x h = cc h
set-here (z ∷ zs) (suc i) y x h = set-here zs i y x h

pub set-other : {X : Type 0} (items : List X) (i k : ℕ) (y : X) → (k ≡ i → ⊥) → slice_get (slice_set items i y) k ≡ slice_get items k
set-other [] i k y h = refl
set-other (z ∷ zs) zero zero y h = absurd (h refl)
set-other (z ∷ zs) zero (suc k) y h = refl
set-other (z ∷ zs) (suc i) zero y h = refl
set-other (z ∷ zs) (suc i) (suc k) y h = set-other zs i k y (λ e. h (ap (λ n. suc n) e))

-- an item that there is
pub item-there : {X : Type 0} (items : List X) (i : ℕ) → suc i ≤ length items → (x : X) × (slice_get items i ≡ Some x)
item-there [] i h = absurd (omega arith)
item-there (x ∷ xs) zero h = (x, refl)
item-there (x ∷ xs) (suc i) h = item-there xs i (omega arith)

-- the cells of a row, with one more
get-none : (cells : List (List ℕ)) (k : ℕ) → length cells ≤ k → slice_get cells k ≡ None
get-none [] k h = refl
get-none (c ∷ cs) zero h = absurd (omega arith)
get-none (c ∷ cs) (suc k) h = get-none cs k (omega arith)

pub get-last : (cells : List (List ℕ)) (cell : List ℕ) → slice_get (cells ++ (cell ∷ [])) (length cells) ≡ Some cell
get-last [] cell = refl
get-last (c ∷ cs) cell = get-last cs cell

get-other : (cells : List (List ℕ)) (cell : List ℕ) (k : ℕ) → (k ≡ length cells → ⊥) → slice_get (cells ++ (cell ∷ [])) k ≡ slice_get cells k
get-other [] cell zero h = absurd (h refl)
get-other [] cell (suc k) h = refl
get-other (c ∷ cs) cell zero h = refl
get-other (c ∷ cs) cell (suc k) h = get-other cs cell k (λ e. h (ap (λ n. suc n) e))

get-at : (row : List (List ℕ)) (k : ℕ) → suc k ≤ length row → slice_get row k ≡ Some (cell_at k row)
get-at [] k h = absurd (omega arith)
get-at (c ∷ cs) zero h = refl
get-at (c ∷ cs) (suc k) h = get-at cs k (omega arith)

among-none : (column : ℕ) (seen cells : List (List ℕ)) → slice_get cells column ≡ None → seen ++ cell_in_part column cells ≡ seen
among-none column seen cells e = ap (λ (o : Option (List ℕ)). seen ++ option_map_or (λ (cell : List ℕ). cell ∷ []) o []) e ∙ append-nil seen

among-some : (column : ℕ) (seen cells : List (List ℕ)) (cell : List ℕ) → slice_get cells column ≡ Some cell → seen ++ cell_in_part column cells ≡ seen ++ (cell ∷ [])
among-some column seen cells cell e = ap (λ (o : Option (List ℕ)). seen ++ option_map_or (λ (cell : List ℕ). cell ∷ []) o []) e

-- a row begins
pub hold-begun : {X : Type 0} (holds : ℕ → X → List (List ℕ) → Type 0) (items : List X) (rows : Rows) → HoldIn holds items rows → HoldTo holds items rows []
hold-begun holds items rows is column x e = subst (holds column x) (sym (among-none column (cells_of column rows) [] refl)) (is column x e)

-- one more cell, whose column has an item
pub hold-more : {X : Type 0} (holds : ℕ → X → List (List ℕ) → Type 0) (items new : List X) (rows : Rows) (cells : List (List ℕ)) (cell : List ℕ) (i : ℕ) (x y : X)
    → length cells ≡ i → slice_get items i ≡ Some x → ((seen : List (List ℕ)) → holds i x seen → holds i y (seen ++ (cell ∷ []))) → new ≡ slice_set items i y
    → HoldTo holds items rows cells → HoldTo holds new rows (cells ++ (cell ∷ []))
hold-more {X} holds items new rows cells cell i x y count here step is before k z e = elim (cases_eq k i) [ inl same ↦ at-place same | inr other ↦ elsewhere other ]
  where
    old : holds i x (cells_of i rows)
    old = subst (holds i x) (among-none i (cells_of i rows) cells (get-none cells i (omega (arith, count)))) (before i x here)

    last : slice_get (cells ++ (cell ∷ [])) i ≡ Some cell
    last = subst (λ (n : ℕ). slice_get (cells ++ (cell ∷ [])) n ≡ Some cell) count (get-last cells cell)

    at-place : k ≡ i → holds k z (cells_of k rows ++ cell_in_part k (cells ++ (cell ∷ [])))
    at-place same =
        let f : slice_get (slice_set items i y) i ≡ Some z = rw (is, same) at e in
        let whole : holds i y (cells_of i rows ++ cell_in_part i (cells ++ (cell ∷ []))) = subst (holds i y) (sym (among-some i (cells_of i rows) (cells ++ (cell ∷ [])) cell last)) (step (cells_of i rows) old) in
        let there : holds i z (cells_of i rows ++ cell_in_part i (cells ++ (cell ∷ []))) = subst (λ (t : X). holds i t (cells_of i rows ++ cell_in_part i (cells ++ (cell ∷ [])))) (set-here items i y z f) whole in
        subst (λ (n : ℕ). holds n z (cells_of n rows ++ cell_in_part n (cells ++ (cell ∷ [])))) (sym same) there

    elsewhere : (k ≡ i → ⊥) → holds k z (cells_of k rows ++ cell_in_part k (cells ++ (cell ∷ [])))
    elsewhere other =
        let f : slice_get (slice_set items i y) k ≡ Some z = rw is at e in
        let same = get-other cells cell k (λ g. other (g ∙ count)) in
        subst (λ (o : Option (List ℕ)). holds k z (cells_of k rows ++ option_map_or (λ (cell : List ℕ). cell ∷ []) o [])) (sym same) (before k z (sym (set-other items i k y other) ∙ f))

-- one more cell behind all columns that have an item
pub hold-past : {X : Type 0} (holds : ℕ → X → List (List ℕ) → Type 0) (items : List X) (rows : Rows) (cells : List (List ℕ)) (cell : List ℕ) → length items ≤ length cells
    → HoldTo holds items rows cells → HoldTo holds items rows (cells ++ (cell ∷ []))
hold-past holds items rows cells cell past before k z e =
    let within = slice_get_within items k z e in
    let same = get-other cells cell k (λ g. omega (arith, g, within, past)) in
    subst (λ (o : Option (List ℕ)). holds k z (cells_of k rows ++ option_map_or (λ (cell : List ℕ). cell ∷ []) o [])) (sym same) (before k z e)

-- a row has ended
pub hold-ended : {X : Type 0} (holds : ℕ → X → List (List ℕ) → Type 0) (items : List X) (rows : Rows) (row : List (List ℕ)) → length items ≤ length row
    → HoldTo holds items rows row → HoldIn holds items (rows ++ (row ∷ []))
hold-ended holds items rows row wide before k z e =
    let within = slice_get_within items k z e in
    subst (holds k z) (among-some k (cells_of k rows) row (cell_at k row) (get-at row k (omega (arith, within, wide))) ∙ sym (cells-last k rows row)) (before k z e)
