-- The rows of columns.
use Rattle.std.proofs.Common.{◌≡◌, ◌+◌, ◌==◌, ℕ, zero, suc, Bool, true, false, List, [], ◌∷◌, ◌++◌, Option, Some, None, length, map, refl, sym, ap, ◌∙◌, arith, slice_get}
use Rattle.std.specs.Prelude.{Ok, Err, if◌then◌else◌}
use Rattle.std.specs.List.{range_with_len}
use Rattle.std.specs.Option.{option_map_or}
use Rattle.std.proofs.lemmas.List.{length-map}
use Rattle.std.proofs.lemmas.Bool.{eqb-true}
use Rattle.std.proofs.lemmas.Option.{slice_get_within}
use Rattle.ds2_columns.specs.Columns as held
use Rattle.ds2_columns.specs.Columns.{ColumnContents}
use Rattle.ds2_csv_cells.specs.Cells.{value_of}
use Rattle.ds2_table.specs.Across.{AreColumnsOf, row_across, rows_across}
use Rattle.ds2_value.specs.Row.{Row}
use Rattle.ds2_value.specs.declared.schema.Column.{Column}
use Rattle.ds2_value.specs.declared.ty.Ty.{Ty}
use Rattle.ds2_value.specs.declared.value.Value.{Value}
use Rattle.ds2_value.specs.declared.value.Value.TheVariants.{Null}
use Rattle.ds2_csv.specs.Columns.{cell_at, cells_of}
use Rattle.ds2_csv.specs.Known.{HoldTo, cell_in_part}
use Rattle.ds2_csv.specs.Records.{Rows, odd_from}
use Rattle.ds2_csv.specs.Refusals.{of_cell}
use Rattle.ds2_csv.specs.Typed.{HasValues, types_of}
use Rattle.ds2_csv.specs.Values.{values_from, rows_from}
use Rattle.ds2_csv.specs.declared.refusal.CsvKind.TheVariants.{BadCell}
use Rattle.ds2_csv.specs.declared.refusal.CsvRefusal.{CsvRefusal}
use Rattle.ds2_csv.proofs.Holding.{item-there}

-- ---- one value of a column

some-at : (values : List Value) (f : List ℕ → Option Value) (cells : List (List ℕ)) (r : ℕ) (cell : List ℕ) → map (λ (v : Value). Some v) values ≡ map f cells → slice_get cells r ≡ Some cell
    → f cell ≡ Some (held.value_in_row values r)
some-at values f [] r cell e h = cc h
some-at [] f (c ∷ cs) r cell e h = cc e
some-at (v ∷ vs) f (c ∷ cs) zero cell e h =
    let same : c ≡ cell = cc h in
    let first : Some v ≡ f c = cc e in
    ap f (sym same) ∙ sym first
some-at (v ∷ vs) f (c ∷ cs) (suc r) cell e h =
    let rest : map (λ (v : Value). Some v) vs ≡ map f cs = cc e in
    some-at vs f cs r cell rest h

cells-get : (k r : ℕ) (rows : Rows) (more row : List (List ℕ)) → slice_get rows r ≡ Some row → slice_get (cells_of k rows ++ more) r ≡ Some (cell_at k row)
cells-get k r [] more row h = cc h
cells-get k zero (x ∷ xs) more row h = let same : x ≡ row = cc h in ap (λ (t : List (List ℕ)). Some (cell_at k t)) same
cells-get k (suc r) (x ∷ xs) more row h = cells-get k r xs more row h

last-get : (k : ℕ) (rows : Rows) (cells : List (List ℕ)) (cell : List ℕ) → slice_get cells k ≡ Some cell → slice_get (cells_of k rows ++ cell_in_part k cells) (length rows) ≡ Some cell
last-get k [] cells cell h = ap (λ (o : Option (List ℕ)). slice_get (option_map_or (λ (c : List ℕ). c ∷ []) o []) 0) h
last-get k (x ∷ xs) cells cell h = last-get k xs cells cell h

-- the value in a row of the columns
abbrev at_row : List ColumnContents → ℕ → ℕ → Value
at_row values r k = option_map_or (λ (v : ColumnContents). held.value_in_row v.values r) (slice_get values k) Null

in-row : (columns : List Column) (values : List ColumnContents) (rows : Rows) (cells : List (List ℕ)) → length values ≡ length columns → HoldTo (HasValues columns) values rows cells
    → (r : ℕ) (row : List (List ℕ)) → slice_get rows r ≡ Some row → (k : ℕ) (c : Column) → slice_get columns k ≡ Some c → value_of c.ty (cell_at k row) ≡ Some (at_row values r k)
in-row columns values rows cells count holds r row there k c e =
    let v = item-there values k (let w = slice_get_within columns k c e in omega (arith, w, count)) in
    some-at v.0.values (value_of c.ty) (cells_of k rows ++ cell_in_part k cells) r (cell_at k row) (holds k v.0 v.1 c e) (cells-get k r rows (cell_in_part k cells) row there)
    ∙ ap (λ (o : Option ColumnContents). Some (option_map_or (λ (x : ColumnContents). held.value_in_row x.values r) o Null)) (sym v.1)

in-part : (columns : List Column) (values : List ColumnContents) (rows : Rows) (cells : List (List ℕ)) → length values ≡ length columns → HoldTo (HasValues columns) values rows cells
    → (k : ℕ) (c : Column) (cell : List ℕ) → slice_get columns k ≡ Some c → slice_get cells k ≡ Some cell → value_of c.ty cell ≡ Some (at_row values (length rows) k)
in-part columns values rows cells count holds k c cell e there =
    let v = item-there values k (let w = slice_get_within columns k c e in omega (arith, w, count)) in
    some-at v.0.values (value_of c.ty) (cells_of k rows ++ cell_in_part k cells) (length rows) cell (holds k v.0 v.1 c e) (last-get k rows cells cell there)
    ∙ ap (λ (o : Option ColumnContents). Some (option_map_or (λ (x : ColumnContents). held.value_in_row x.values (length rows)) o Null)) (sym v.1)

-- ---- the values of a row

abbrev tabulate : (ℕ → Value) → ℕ → List Value
tabulate f zero = []
tabulate f (suc n) = f 0 ∷ tabulate (λ k. f (suc k)) n

values-good : (columns : List Column) (row : List (List ℕ)) (f : ℕ → Value) (number j : ℕ) → length row ≡ length columns
    → ((k : ℕ) (c : Column) → slice_get columns k ≡ Some c → value_of c.ty (cell_at k row) ≡ Some (f k)) → values_from number j columns row ≡ Ok (tabulate f (length columns))
unfolding values_from
values-good [] row f number j wide good = refl
values-good (c ∷ cs) [] f number j wide good = absurd (omega (arith, wide))
values-good (c ∷ cs) (x ∷ xs) f number j wide good =
    let rest = values-good cs xs (λ k. f (suc k)) number (j + 1) (omega (arith, wide)) (λ k d e. good (suc k) d e) in
    let first : value_of c.ty x ≡ Some (f 0) = good 0 c refl in
    rw (first, rest) refl

values-bad : (columns : List Column) (cells more : List (List ℕ)) (cell : List ℕ) (c : Column) (f : ℕ → Value) (number j : ℕ)
    → ((k : ℕ) (d : Column) (x : List ℕ) → slice_get columns k ≡ Some d → slice_get cells k ≡ Some x → value_of d.ty x ≡ Some (f k))
    → slice_get columns (length cells) ≡ Some c → value_of c.ty cell ≡ None → values_from number j columns ((cells ++ (cell ∷ [])) ++ more) ≡ Err (of_cell BadCell number (j + length cells))
unfolding values_from
values-bad [] cells more cell c f number j good there bad = cc there
values-bad (d ∷ ds) [] more cell c f number j good there bad =
    let same : d ≡ c = cc there in
    let none : value_of d.ty cell ≡ None = ap (λ (t : Column). value_of t.ty cell) same ∙ bad in
    let n : j ≡ j + 0 = omega arith in
    rw none (ap (λ (m : ℕ). Err (of_cell BadCell number m)) n)
values-bad (d ∷ ds) (x ∷ xs) more cell c f number j good there bad =
    let rest = values-bad ds xs more cell c (λ k. f (suc k)) number (j + 1) (λ k e y h g. good (suc k) e y h g) there bad in
    let first : value_of d.ty x ≡ Some (f 0) = good 0 d x refl refl in
    let n : j + 1 + length xs ≡ j + suc (length xs) = omega arith in
    rw (first, rest) (ap (λ (m : ℕ). Err (of_cell BadCell number m)) n)

across-row : (values : List ColumnContents) (r : ℕ) → tabulate (at_row values r) (length values) ≡ row_across values r
across-row [] r = refl
across-row (v ∷ vs) r = ap (λ (t : List Value). held.value_in_row v.values r ∷ t) (across-row vs r)

-- ---- rows

even-parts : (n i : ℕ) (x : List (List ℕ)) (xs : Rows) → odd_from n i (x ∷ xs) ≡ None → (length x ≡ n) × (odd_from n (i + 1) xs ≡ None)
unfolding odd_from
even-parts n i x xs even = by (length x == n) refl even
  where
    by : (b : Bool) → (length x == n) ≡ b → (if b then odd_from n (i + 1) xs else Some i) ≡ None → (length x ≡ n) × (odd_from n (i + 1) xs ≡ None)
    by true e g = (eqb-true (length x) n e, g)
    by false e g = cc g

even-row : (n i : ℕ) (rows : Rows) (r : ℕ) (row : List (List ℕ)) → odd_from n i rows ≡ None → slice_get rows r ≡ Some row → length row ≡ n
even-row n i [] r row even h = cc h
even-row n i (x ∷ xs) zero row even h = let same : x ≡ row = cc h in ap (λ (t : List (List ℕ)). length t) (sym same) ∙ (even-parts n i x xs even).0
even-row n i (x ∷ xs) (suc r) row even h = even-row n (i + 1) xs r row (even-parts n i x xs even).1 h

-- each row has values, whatever its number
abbrev GoodRows : List Column → Rows → (ℕ → Row) → ℕ → Type 0
GoodRows columns rows g s = (r : ℕ) (row : List (List ℕ)) → slice_get rows r ≡ Some row → (number : ℕ) → values_from number 1 columns row ≡ Ok (g (s + r))

good-rest : (columns : List Column) (x : List (List ℕ)) (xs : Rows) (g : ℕ → Row) (s : ℕ) → GoodRows columns (x ∷ xs) g s → GoodRows columns xs g (s + 1)
good-rest columns x xs g s good r row h number = let n : s + suc r ≡ s + 1 + r = omega arith in good (suc r) row h number ∙ ap (λ m. Ok (g m)) n

good-first : (columns : List Column) (x : List (List ℕ)) (xs : Rows) (g : ℕ → Row) (s number : ℕ) → GoodRows columns (x ∷ xs) g s → values_from number 1 columns x ≡ Ok (g s)
good-first columns x xs g s number good = let n : s + 0 ≡ s = omega arith in good 0 x refl number ∙ ap (λ m. Ok (g m)) n

rows-good : (columns : List Column) (rows : Rows) (g : ℕ → Row) (n s : ℕ) → GoodRows columns rows g s → rows_from columns n rows ≡ Ok (map g (range_with_len s (length rows)))
unfolding rows_from
rows-good columns [] g n s good = refl
rows-good columns (x ∷ xs) g n s good =
    let first = good-first columns x xs g s n good in
    let rest = rows-good columns xs g (n + 1) (s + 1) (good-rest columns x xs g s good) in
    rw (first, rest) refl

rows-bad : (columns : List Column) (rows later : Rows) (bad : List (List ℕ)) (g : ℕ → Row) (n s : ℕ) (refusal : CsvRefusal) → GoodRows columns rows g s
    → values_from (n + length rows) 1 columns bad ≡ Err refusal → rows_from columns n (rows ++ (bad ∷ later)) ≡ Err refusal
unfolding rows_from
rows-bad columns [] later bad g n s refusal good here =
    let m : n + 0 ≡ n = omega arith in
    let said : values_from n 1 columns bad ≡ Err refusal = ap (λ k. values_from k 1 columns bad) (sym m) ∙ here in
    rw said refl
rows-bad columns (x ∷ xs) later bad g n s refusal good here =
    let first = good-first columns x xs g s n good in
    let m : n + suc (length xs) ≡ n + 1 + length xs = omega arith in
    let rest = rows-bad columns xs later bad g (n + 1) (s + 1) refusal (good-rest columns x xs g s good) (ap (λ k. values_from k 1 columns bad) (sym m) ∙ here) in
    rw (first, rest) refl

-- ---- what was read into columns

rows-are : (columns : List Column) (values : List ColumnContents) (rows : Rows) (cells : List (List ℕ)) → length values ≡ length columns → odd_from (length columns) 1 rows ≡ None
    → HoldTo (HasValues columns) values rows cells → GoodRows columns rows (row_across values) 0
rows-are columns values rows cells count even holds r row there number =
    let here : r ≡ 0 + r = omega arith in
    values-good columns row (at_row values r) number 1 (even-row (length columns) 1 rows r row even there) (in-row columns values rows cells count holds r row there)
    ∙ ap (λ n. Ok (tabulate (at_row values r) n)) (sym count) ∙ ap (λ (t : Row). Ok t) (across-row values r) ∙ ap (λ (n : ℕ). Ok (row_across values n)) here

-- the first cell that has no value
pub bad-cell : (columns : List Column) (values : List ColumnContents) (rows : Rows) (cells : List (List ℕ)) (cell : List ℕ) (c : Column) → length values ≡ length columns
    → odd_from (length columns) 1 rows ≡ None → HoldTo (HasValues columns) values rows cells → slice_get columns (length cells) ≡ Some c → value_of c.ty cell ≡ None
    → (more : List (List ℕ)) (later : Rows) → rows_from columns 1 (rows ++ (((cells ++ (cell ∷ [])) ++ more) ∷ later)) ≡ Err (of_cell BadCell (1 + length rows) (1 + length cells))
bad-cell columns values rows cells cell c count even holds there bad more later =
    rows-bad columns rows later ((cells ++ (cell ∷ [])) ++ more) (row_across values) 1 0 (of_cell BadCell (1 + length rows) (1 + length cells)) (rows-are columns values rows cells count even holds)
    (values-bad columns cells more cell c (at_row values (length rows)) (1 + length rows) 1 (in-part columns values rows cells count holds) there bad)

pub rows-whole : (columns : List Column) (values : List ColumnContents) (rows : Rows) → length values ≡ length columns → odd_from (length columns) 1 rows ≡ None
    → HoldTo (HasValues columns) values rows [] → rows_from columns 1 rows ≡ Ok (rows_across (length rows) values)
rows-whole columns values rows count even holds = rows-good columns rows (row_across values) 1 0 (rows-are columns values rows [] count even holds)

-- the columns are those of a table
pub columns-are : (columns : List Column) (values : List ColumnContents) (n : ℕ) → map (λ (v : ColumnContents). v.ty) values ≡ types_of columns
    → ((k : ℕ) (v : ColumnContents) → slice_get values k ≡ Some v → length v.values ≡ n) → AreColumnsOf columns n values
columns-are [] [] n types long = tt
columns-are [] (v ∷ vs) n types long = cc types
columns-are (c ∷ cs) [] n types long = cc types
columns-are (c ∷ cs) (v ∷ vs) n types long =
    let first : v.ty ≡ c.ty = cc types in
    let rest : map (λ (v : ColumnContents). v.ty) vs ≡ types_of cs = cc types in
    (first, long 0 v refl, columns-are cs vs n rest (λ k w e. long (suc k) w e))

pub types-count : (columns : List Column) (values : List ColumnContents) → map (λ (v : ColumnContents). v.ty) values ≡ types_of columns → length values ≡ length columns
types-count columns values types =
    sym (length-map values (λ (v : ColumnContents). v.ty)) ∙ ap (λ (t : List Ty). length t) types ∙ length-map columns (λ (c : Column). c.ty)
