-- A column's cells, one after the other.
use Rattle.std.proofs.Common.{drop, get_or, append_assoc, ◌≡◌, ◌≤◌, ◌<◌, ◌+◌, ℕ, zero, suc, List, [], ◌∷◌, ◌++◌, length, take, refl, sym, ap, ◌∙◌, arith, unwrap_or, slice_get}
use Rattle.ds2_csv.specs.Columns.{cell_at, cells_of, column_of, columns_from}
use Rattle.ds2_csv.specs.declared.heading.Heading.{Heading}
use Rattle.ds2_value.specs.declared.schema.Column.{Column}
use Rattle.std.proofs.lemmas.List.{append-nil}
use Rattle.ds2_csv.specs.Records.{Rows}

-- the cell of a row
abbrev pub cell_of : ℕ → Rows → ℕ → List ℕ
cell_of column rows row = cell_at column (unwrap_or (slice_get rows row) [])

-- the cells of so many rows
abbrev pub cells_to : ℕ → Rows → ℕ → List (List ℕ)
cells_to column rows n = cells_of column (take n rows)

-- one more row
pub cells-more : (column : ℕ) (rows : Rows) (i : ℕ) → i < length rows → cells_to column rows (i + 1) ≡ cells_to column rows i ++ (cell_of column rows i ∷ [])
cells-more column [] i h = absurd (omega arith)
cells-more column (r ∷ rs) zero h = refl
cells-more column (r ∷ rs) (suc i) h =
    let e : suc i + 1 ≡ suc (i + 1) = omega arith in
    ap (λ n. cells_to column (r ∷ rs) n) e ∙ ap (λ (t : List (List ℕ)). cell_at column r ∷ t) (cells-more column rs i (omega arith))

pub cells-all : (column : ℕ) (rows : Rows) (i : ℕ) → length rows ≤ i → cells_to column rows i ≡ cells_of column rows
cells-all column [] zero h = refl
cells-all column [] (suc i) h = refl
cells-all column (r ∷ rs) zero h = absurd (omega arith)
cells-all column (r ∷ rs) (suc i) h = ap (λ (t : List (List ℕ)). cell_at column r ∷ t) (cells-all column rs i (omega arith))

-- the items from a place on
pub drop-item : {X : Type 0} (xs : List X) (i : ℕ) (x : X) → i < length xs → x ≡ get_or xs i x → drop i xs ≡ x ∷ drop (i + 1) xs
drop-item [] i x h e = absurd (omega arith)
drop-item {X} (y ∷ ys) zero x h e = ap (λ (t : X). t ∷ ys) (sym e)
drop-item {X} (y ∷ ys) (suc i) x h e = let n : suc i + 1 ≡ suc (i + 1) = omega arith in drop-item ys i x (omega arith) e ∙ ap (λ k. x ∷ drop k (y ∷ ys)) (sym n)

pub drop-none : {X : Type 0} (xs : List X) (i : ℕ) → length xs ≤ i → drop i xs ≡ []
drop-none [] zero h = refl
drop-none [] (suc i) h = refl
drop-none (x ∷ xs) zero h = absurd (omega arith)
drop-none (x ∷ xs) (suc i) h = drop-none xs i (omega arith)

-- one more column
pub columns-took : (done new whole : List Column) (headings : List Heading) (i : ℕ) (h : Heading) (rows : Rows) (column : Column) → i < length headings → h ≡ get_or headings i h
    → column ≡ column_of h (cells_of i rows) → new ≡ done ++ (column ∷ []) → done ++ columns_from i (drop i headings) rows ≡ whole → new ++ columns_from (i + 1) (drop (i + 1) headings) rows ≡ whole
unfolding columns_from
columns-took done new whole headings i h rows column lt here is more so =
    ap (λ (t : List Column). t ++ columns_from (i + 1) (drop (i + 1) headings) rows) more
    ∙ append_assoc done (column ∷ []) (columns_from (i + 1) (drop (i + 1) headings) rows)
    ∙ ap (λ (t : Column). done ++ (t ∷ columns_from (i + 1) (drop (i + 1) headings) rows)) is
    ∙ ap (λ (t : List Heading). done ++ columns_from i t rows) (sym (drop-item headings i h lt here))
    ∙ so

pub columns-ended : (done whole : List Column) (headings : List Heading) (i : ℕ) (rows : Rows) → length headings ≤ i → done ++ columns_from i (drop i headings) rows ≡ whole → done ≡ whole
unfolding columns_from
columns-ended done whole headings i rows end so = sym (append-nil done) ∙ ap (λ (t : List Heading). done ++ columns_from i t rows) (sym (drop-none headings i end)) ∙ so
