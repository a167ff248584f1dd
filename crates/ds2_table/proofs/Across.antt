-- Rows that are read off columns.
use Rattle.std.proofs.Common.{◌≡◌, ℕ, zero, suc, ◌+◌, ◌<◌, ◌≤◌, Bool, true, ◌&&◌, List, [], ◌∷◌, ◌++◌, length, map, take, drop, get_or, set, refl, sym, ap, subst, ◌∙◌, arith}
use Rattle.std.proofs.lemmas.List.{get_or_past, set-get_or, length_push, take_at, take_all}
use Rattle.std.proofs.lemmas.List.FromFn.{length-map-range_with_len, get_or-map-range_with_len, map-range_with_len_more, fill_by_all}
use Rattle.std.proofs.lemmas.Option.{slice_get_past}
use Rattle.std.specs.Cmp.{first_so, second_so}
use Rattle.std.specs.List.{AllByRecursion, list_all, range_with_len}
use Rattle.std.specs.Prelude.{Some, None, Result, Ok, Err, IfOk, OnErr, slice_get}
use Rattle.ds2_columns.specs.Columns.{ColumnContents, IsColumn, empty_column, gathered_column, value_in_row, with_value, first_values}
use Rattle.ds2_value.specs.Row.{Row, Columns}
use Rattle.ds2_value.specs.Schema.{row_fits, types_in_bounds}
use Rattle.ds2_value.specs.Types.{fits, in_bounds}
use Rattle.ds2_value.specs.Value.{or_null}
use Rattle.ds2_value.specs.declared.schema.Column.{Column}
use Rattle.ds2_value.specs.declared.ty.Ty.{Ty}
use Rattle.ds2_value.specs.declared.value.Value.{Value}
use Rattle.ds2_value.specs.declared.value.Value.TheVariants.{Null}
use Rattle.ds2_columns.proofs.Fitting.{all_behind, fits_at}
use Rattle.ds2_table.specs.Across.{row_across, rows_across, AreColumnsOf, AreFirstColumns, HoldsRows, AddsMissing, HaveTypesFor, with_each, HaveValues, CutsBackTo}
use Rattle.ds2_table.specs.Table.{rows_fit, table_value}

-- ---- rows

pub row_count : (count : ℕ) (columns : List ColumnContents) → length (rows_across count columns) ≡ count
row_count count columns = length-map-range_with_len (row_across columns) 0 count

pub row_at : (count : ℕ) (columns : List ColumnContents) (row : ℕ) → row < count → get_or (rows_across count columns) row [] ≡ row_across columns row
row_at count columns row h = get_or-map-range_with_len (row_across columns) 0 count row row [] h (omega arith)

same_rows : (f g : ℕ → Row) (count : ℕ) → ((k : ℕ) → k < count → f k ≡ g k) → map f (range_with_len 0 count) ≡ map g (range_with_len 0 count)
same_rows f g count h =
    fill_by_all g (map f (range_with_len 0 count)) count [] (length-map-range_with_len f 0 count)
    (λ k l. get_or-map-range_with_len f 0 count k k [] l (omega arith) ∙ h k l)

-- a column within a row
in_row_across : (columns : List ColumnContents) (row column : ℕ) (values : ColumnContents) → slice_get columns column ≡ Some values
    → or_null (slice_get (row_across columns row) column) ≡ value_in_row values.values row
in_row_across [] row column values h = let none : None ≡ Some values = h in cc
in_row_across (c ∷ cs) row zero values h = let same : c ≡ values = cc in ap (λ (x : ColumnContents). value_in_row x.values row) same
in_row_across (c ∷ cs) row (suc column) values h = in_row_across cs row column values h

no_column_across : (columns : List ColumnContents) (row column : ℕ) → slice_get columns column ≡ None → Null ≡ or_null (slice_get (row_across columns row) column)
no_column_across [] row column h = refl
no_column_across (c ∷ cs) row zero h = let none : Some c ≡ None = h in cc
no_column_across (c ∷ cs) row (suc column) h = no_column_across cs row column h

-- a row is there, or it is behind the last one
data Place (row count : ℕ) : Type 0 where
  inside : row < count → Place row count
  outside : count ≤ row → Place row count

place : (row count : ℕ) → Place row count
place row zero = outside (omega arith)
place zero (suc count) = inside (omega arith)
place (suc row) (suc count) = by (place row count)
  where
    by : Place row count → Place (suc row) (suc count)
    by (inside l) = inside (omega (arith, l))
    by (outside l) = outside (omega (arith, l))

past_rows : (count : ℕ) (columns : List ColumnContents) (row : ℕ) → count ≤ row → get_or (rows_across count columns) row [] ≡ []
past_rows count columns row h = get_or_past (rows_across count columns) row [] (omega (arith, h, row_count count columns))

pub no_cell : (count : ℕ) (columns : List ColumnContents) (row column : ℕ) → slice_get columns column ≡ None → Null ≡ table_value (rows_across count columns) row column
no_cell count columns row column h = by (place row count)
  where
    by : Place row count → Null ≡ table_value (rows_across count columns) row column
    by (inside l) = no_column_across columns row column h ∙ ap (λ (r : Row). or_null (slice_get r column)) (sym (row_at count columns row l))
    by (outside l) = ap (λ (r : Row). or_null (slice_get r column)) (sym (past_rows count columns row l))

values_of : (schema : Columns) (count : ℕ) (columns : List ColumnContents) (column : ℕ) (values : ColumnContents) → AreFirstColumns schema count columns
    → slice_get columns column ≡ Some values → length values.values ≡ count
values_of [] count [] column values h e = let none : None ≡ Some values = e in cc
values_of [] count (v ∷ vs) column values h e = absurd h
values_of (c ∷ cs) count [] column values h e = let none : None ≡ Some values = e in cc
values_of (c ∷ cs) count (v ∷ vs) zero values h e = let same : v ≡ values = cc in ap (λ (x : ColumnContents). length x.values) (sym same) ∙ h.1
values_of (c ∷ cs) count (v ∷ vs) (suc column) values h e = values_of cs count vs column values h.2 e

pub cell_is : (schema : Columns) (count : ℕ) (columns : List ColumnContents) (row column : ℕ) (values : ColumnContents) → AreFirstColumns schema count columns
    → slice_get columns column ≡ Some values → value_in_row values.values row ≡ table_value (rows_across count columns) row column
cell_is schema count columns row column values h e = by (place row count)
  where
    by : Place row count → value_in_row values.values row ≡ table_value (rows_across count columns) row column
    by (inside l) =
        sym (in_row_across columns row column values e) ∙ ap (λ (r : Row). or_null (slice_get r column)) (sym (row_at count columns row l))
    by (outside l) =
        ap or_null (slice_get_past values.values row (omega (arith, l, values_of schema count columns column values h e)))
        ∙ ap (λ (r : Row). or_null (slice_get r column)) (sym (past_rows count columns row l))

-- ---- columns that are handed in

pub are_first : (schema : Columns) (count : ℕ) (columns : List ColumnContents) → AreColumnsOf schema count columns → AreFirstColumns schema count columns
are_first [] count [] h = tt
are_first [] count (v ∷ vs) h = absurd h
are_first (c ∷ cs) count [] h = absurd h
are_first (c ∷ cs) count (v ∷ vs) h = (h.0, h.1, are_first cs count vs h.2)

row_fits_across : (schema : Columns) (count : ℕ) (columns : List ColumnContents) (row : ℕ) → AreColumnsOf schema count columns
    → AllByRecursion IsColumn columns → row_fits (row_across columns row) schema ≡ true
row_fits_across [] count [] row h k = refl
row_fits_across [] count (v ∷ vs) row h k = absurd h
row_fits_across (c ∷ cs) count [] row h k = absurd h
row_fits_across (c ∷ cs) count (v ∷ vs) row h k =
    let first : fits (value_in_row v.values row) c.ty ≡ true = subst (λ (ty : Ty). fits (value_in_row v.values row) ty ≡ true) h.0 (fits_at v.ty v.values row k.0.fit) in
    ap (λ b. b && row_fits (row_across vs row) cs) first ∙ row_fits_across cs count vs row h.2 k.1

all_in_range : {X : Type 0} (p : X → Bool) (f : ℕ → X) (from count : ℕ) → ((k : ℕ) → p (f k) ≡ true) → list_all p (map f (range_with_len from count)) ≡ true
all_in_range p f from zero h = refl
all_in_range p f from (suc count) h = ap (λ b. b && list_all p (map f (range_with_len (from + 1) count))) (h from) ∙ all_in_range p f (from + 1) count h

pub holds_columns : (schema : Columns) (count : ℕ) (columns : List ColumnContents) → AreColumnsOf schema count columns → AllByRecursion IsColumn columns
    → HoldsRows schema count columns
holds_columns schema count columns h k = record {
  first = are_first schema count columns h;
  fit = all_in_range (λ row. row_fits row schema) (row_across columns) 0 count (λ row. row_fits_across schema count columns row h k);
}

-- ---- columns that lack

pub nothing_added : (schema : Columns) (columns : List ColumnContents) → AddsMissing schema columns columns
nothing_added schema columns = record { held = λ count h. h; rows = λ count h. refl }

no_values : (schema : Columns) (count : ℕ) (columns : List ColumnContents) → AreFirstColumns schema count columns → length columns < length schema → count ≡ 0
no_values [] count columns h l = absurd (omega (arith, l))
no_values (c ∷ cs) count [] h l = h
no_values (c ∷ cs) count (v ∷ vs) h l = no_values cs count vs h.2 (omega (arith, l))

none_first : (schema : Columns) (count : ℕ) → count ≡ 0 → AreFirstColumns schema count []
none_first [] count h = tt
none_first (c ∷ cs) count h = h

one_first : (schema : Columns) (count : ℕ) (columns : List ColumnContents) (d : Column) → AreFirstColumns schema count columns → length columns < length schema
    → AreFirstColumns schema count (columns ++ empty_column (get_or schema (length columns) d).ty ∷ [])
one_first [] count columns d h l = absurd (omega (arith, l))
one_first (c ∷ cs) count [] d h l = (refl, sym h, none_first cs count h)
one_first (c ∷ cs) count (v ∷ vs) d h l = (h.0, h.1, one_first cs count vs d h.2 (omega (arith, l)))

pub one_added : (schema : Columns) (before now : List ColumnContents) (d : Column) → AddsMissing schema before now → length now < length schema
    → AddsMissing schema before (now ++ empty_column (get_or schema (length now) d).ty ∷ [])
one_added schema before now d h l = record {
  held = λ count k. one_first schema count now d (h.held count k) l;
  rows = λ count k. let none = no_values schema count now (h.held count k) l in
      ap (λ (n : ℕ). rows_across n (now ++ empty_column (get_or schema (length now) d).ty ∷ [])) none
      ∙ sym (ap (λ (n : ℕ). rows_across n now) none)
      ∙ h.rows count k;
}

pub bounds_there : (schema : Columns) (i : ℕ) (d : Column) → types_in_bounds schema ≡ true → i < length schema → in_bounds (get_or schema i d).ty ≡ true
bounds_there [] i d h l = absurd (omega (arith, l))
bounds_there (c ∷ cs) zero d h l = first_so (in_bounds c.ty) (types_in_bounds cs) h
bounds_there (c ∷ cs) (suc i) d h l = bounds_there cs i d (second_so (in_bounds c.ty) (types_in_bounds cs) h) (omega (arith, l))

pub still_holds : (schema : Columns) (count : ℕ) (before now : List ColumnContents) → HoldsRows schema count before → AddsMissing schema before now → HoldsRows schema count now
still_holds schema count before now h a = record {
  first = a.held count h.first;
  fit = ap (λ (rows : List Row). rows_fit rows schema) (a.rows count h.first) ∙ h.fit;
}

-- ---- one more row

pub types_for : (schema : Columns) (count : ℕ) (columns : List ColumnContents) (row : Row) → AreFirstColumns schema count columns → length schema ≤ length columns
    → row_fits row schema ≡ true → HaveTypesFor columns row
types_for [] count [] [] h l f = tt
types_for [] count [] (v ∷ vs) h l f = cc
types_for [] count (x ∷ xs) row h l f = absurd h
types_for (c ∷ cs) count [] row h l f = absurd (omega (arith, l))
types_for (c ∷ cs) count (x ∷ xs) [] h l f = cc
types_for (c ∷ cs) count (x ∷ xs) (v ∷ vs) h l f = (
  subst (λ (ty : Ty). fits v ty ≡ true) (sym h.0) (first_so (fits v c.ty) (row_fits vs cs) f),
  types_for cs count xs vs h.2 (omega (arith, l)) (second_so (fits v c.ty) (row_fits vs cs) f),
)

pub as_wide : (columns : List ColumnContents) (row : Row) → HaveTypesFor columns row → length row ≡ length columns
as_wide [] [] h = refl
as_wide [] (v ∷ vs) h = absurd h
as_wide (c ∷ cs) [] h = absurd h
as_wide (c ∷ cs) (v ∷ vs) h = ap (λ (n : ℕ). suc n) (as_wide cs vs h.1)

pub each_none : (columns : List ColumnContents) → with_each columns [] ≡ columns
each_none [] = refl
each_none (c ∷ cs) = refl

pub as_many_columns : (columns : List ColumnContents) (row : Row) → length (with_each columns row) ≡ length columns
as_many_columns [] row = refl
as_many_columns (c ∷ cs) [] = refl
as_many_columns (c ∷ cs) (v ∷ vs) = ap (λ (n : ℕ). suc n) (as_many_columns cs vs)

pub type_there : (columns : List ColumnContents) (row : Row) (i : ℕ) (d : ColumnContents) (e : Value) → HaveTypesFor columns row → i < length columns
    → fits (get_or row i e) (get_or (with_each columns (take i row)) i d).ty ≡ true
type_there [] row i d e h l = absurd (omega (arith, l))
type_there (c ∷ cs) [] i d e h l = absurd h
type_there (c ∷ cs) (v ∷ vs) zero d e h l = h.0
type_there (c ∷ cs) (v ∷ vs) (suc i) d e h l = type_there cs vs i d e h.1 (omega (arith, l))

set_each : (columns : List ColumnContents) (row : Row) (i : ℕ) (d : ColumnContents) (e : Value) → HaveTypesFor columns row → i < length columns
    → set (with_each columns (take i row)) i (with_value (get_or (with_each columns (take i row)) i d) (get_or row i e)) ≡ with_each columns (take (suc i) row)
set_each [] row i d e h l = absurd (omega (arith, l))
set_each (c ∷ cs) [] i d e h l = absurd h
set_each (c ∷ cs) (v ∷ vs) zero d e h l = ap (λ (xs : List ColumnContents). with_value c v ∷ xs) (sym (each_none cs))
set_each (c ∷ cs) (v ∷ vs) (suc i) d e h l = ap (λ (xs : List ColumnContents). with_value c v ∷ xs) (set_each cs vs i d e h.1 (omega (arith, l)))

pub next_each : (columns : List ColumnContents) (row : Row) (i : ℕ) (d : ColumnContents) (e : Value) → HaveTypesFor columns row → i < length columns
    → set (with_each columns (take i row)) i (with_value (get_or (with_each columns (take i row)) i d) (get_or row i e)) ≡ with_each columns (take (i + 1) row)
next_each columns row i d e h l =
    let next : suc i ≡ i + 1 = omega arith in set_each columns row i d e h l ∙ ap (λ (n : ℕ). with_each columns (take n row)) next

-- values that were added go again
cut_each : (count : ℕ) (columns : List ColumnContents) (row : Row) → HaveValues count columns → map (first_values count) (with_each columns row) ≡ columns
cut_each count [] row h = refl
cut_each count (c ∷ cs) [] h =
    let one : first_values count c ≡ c = ap (λ (vs : List Value). record c { values = vs }) (take_all count c.values (omega (arith, h.0))) in
    let more : map (first_values count) cs ≡ cs = ap (map (first_values count)) (sym (each_none cs)) ∙ cut_each count cs [] h.1 in
    λ i. one i ∷ more i
cut_each count (c ∷ cs) (v ∷ vs) h =
    let one : first_values count (with_value c v) ≡ c = ap (λ (xs : List Value). record c { values = xs }) (take_at c.values (v ∷ []) count h.0) in
    λ i. one i ∷ cut_each count cs vs h.1 i

pub cuts_back : (columns : List ColumnContents) (row : Row) → CutsBackTo columns (with_each columns row)
cuts_back columns row = record { cut = λ count h. cut_each count columns row h }

pub have_values : (schema : Columns) (count : ℕ) (columns : List ColumnContents) → AreFirstColumns schema count columns → HaveValues count columns
have_values [] count [] h = tt
have_values [] count (v ∷ vs) h = absurd h
have_values (c ∷ cs) count [] h = tt
have_values (c ∷ cs) count (v ∷ vs) h = (h.1, have_values cs count vs h.2)

-- each column cut to its first values, one after the other
pub next_cut : {X : Type 0} (f : X → X) (i : ℕ) (xs : List X) (d : X) → i < length xs
    → set (map f (take i xs) ++ drop i xs) i (f (get_or (map f (take i xs) ++ drop i xs) i d)) ≡ map f (take (suc i) xs) ++ drop (suc i) xs
next_cut f i [] d h = absurd (omega (arith, h))
next_cut f zero (x ∷ xs) d h = refl
next_cut {X = X} f (suc i) (x ∷ xs) d h = ap (λ (ys : List X). f x ∷ ys) (next_cut f i xs d (omega (arith, h)))

value_before : (values : List Value) (last : Value) (row : ℕ) → row < length values → value_in_row (values ++ last ∷ []) row ≡ value_in_row values row
value_before [] last row h = absurd (omega (arith, h))
value_before (v ∷ values) last zero h = refl
value_before (v ∷ values) last (suc row) h = value_before values last row (omega (arith, h))

value_last : (values : List Value) (last : Value) (row : ℕ) → row ≡ length values → value_in_row (values ++ last ∷ []) row ≡ last
value_last [] last zero h = refl
value_last [] last (suc row) h = absurd (omega (arith, h))
value_last (v ∷ values) last zero h = absurd (omega (arith, h))
value_last (v ∷ values) last (suc row) h = value_last values last row (omega (arith, h))

row_before : (count : ℕ) (columns : List ColumnContents) (row : Row) (k : ℕ) → HaveValues count columns → k < count → row_across (with_each columns row) k ≡ row_across columns k
row_before count [] row k h l = refl
row_before count (c ∷ cs) [] k h l = refl
row_before count (c ∷ cs) (v ∷ vs) k h l = λ i. value_before c.values v k (omega (arith, h.0, l)) i ∷ row_before count cs vs k h.1 l i

last_row : (count : ℕ) (columns : List ColumnContents) (row : Row) → HaveValues count columns → HaveTypesFor columns row → row_across (with_each columns row) count ≡ row
last_row count [] [] h t = refl
last_row count [] (v ∷ vs) h t = absurd t
last_row count (c ∷ cs) [] h t = absurd t
last_row count (c ∷ cs) (v ∷ vs) h t = λ i. value_last c.values v count (sym h.0) i ∷ last_row count cs vs h.1 t.1 i

pub rows_grown : (count : ℕ) (columns : List ColumnContents) (row : Row) → HaveValues count columns → HaveTypesFor columns row
    → rows_across (count + 1) (with_each columns row) ≡ rows_across count columns ++ row ∷ []
rows_grown count columns row h t =
    let before = same_rows (row_across (with_each columns row)) (row_across columns) count (λ k l. row_before count columns row k h l) in
    map-range_with_len_more (row_across (with_each columns row)) 0 count count (omega arith)
    ∙ (λ i. before i ++ last_row count columns row h t i ∷ [])

grown_first : (schema : Columns) (count : ℕ) (columns : List ColumnContents) (row : Row) → AreFirstColumns schema count columns → HaveTypesFor columns row
    → length schema ≤ length columns → AreFirstColumns schema (count + 1) (with_each columns row)
grown_first [] count [] row h t l = tt
grown_first [] count (x ∷ xs) row h t l = absurd h
grown_first (c ∷ cs) count [] row h t l = absurd (omega (arith, l))
grown_first (c ∷ cs) count (x ∷ xs) [] h t l = absurd t
grown_first (c ∷ cs) count (x ∷ xs) (v ∷ vs) h t l = (h.0, length_push x.values v ∙ ap (λ (n : ℕ). n + 1) h.1, grown_first cs count xs vs h.2 t.1 (omega (arith, l)))

pub grown_holds : (schema : Columns) (count : ℕ) (columns : List ColumnContents) (row : Row) → HoldsRows schema count columns → length schema ≤ length columns
    → row_fits row schema ≡ true → HoldsRows schema (count + 1) (with_each columns row)
grown_holds schema count columns row h l f =
    let t = types_for schema count columns row h.first l f in
    record {
      first = grown_first schema count columns row h.first t l;
      fit =
          ap (λ (rows : List Row). rows_fit rows schema) (rows_grown count columns row (have_values schema count columns h.first) t)
          ∙ all_behind (λ r. row_fits r schema) (rows_across count columns) row h.fit f;
    }

-- ---- what a table's calls leave

pub holds_none : (schema : Columns) (columns : List ColumnContents) → columns ≡ [] → HoldsRows schema 0 columns
holds_none schema columns e = record {
  first = subst (λ (cs : List ColumnContents). AreFirstColumns schema 0 cs) (sym e) (none_first schema 0 refl);
  fit = refl;
}

pub cut_more : {X : Type 0} (f : X → X) (i : ℕ) (xs ys : List X) (x now : X) → ys ≡ map f (take i xs) ++ drop i xs → x ≡ get_or ys i x → now ≡ f x → i < length xs
    → set ys i now ≡ map f (take (i + 1) xs) ++ drop (i + 1) xs
cut_more {X = X} f i xs ys x now e g n h =
    let value : now ≡ f (get_or (map f (take i xs) ++ drop i xs) i x) = n ∙ ap f (g ∙ ap (λ (zs : List X). get_or zs i x) e) in
    let next : suc i ≡ i + 1 = omega arith in
    (λ k. set (e k) i (value k)) ∙ next_cut f i xs x h ∙ ap (λ (m : ℕ). map f (take m xs) ++ drop m xs) next

pub type_more : (columns : List ColumnContents) (row : Row) (i : ℕ) (items : List ColumnContents) (column : ColumnContents) (v : Value) → HaveTypesFor columns row
    → i < length columns → items ≡ with_each columns (take i row) → column ≡ get_or items i column → v ≡ get_or row i v → fits v column.ty ≡ true
type_more columns row i items column v h l e g w =
    let there : column ≡ get_or (with_each columns (take i row)) i column = g ∙ ap (λ (cs : List ColumnContents). get_or cs i column) e in
    (λ k. fits (w k) (there k).ty) ∙ type_there columns row i column v h l

pub each_more : (columns : List ColumnContents) (row : Row) (i : ℕ) (items : List ColumnContents) (column now : ColumnContents) (v : Value) → HaveTypesFor columns row
    → i < length columns → items ≡ with_each columns (take i row) → column ≡ get_or items i column → v ≡ get_or row i v → now ≡ with_value column v
    → set items i now ≡ with_each columns (take (i + 1) row)
each_more columns row i items column now v h l e g w n =
    let there : column ≡ get_or (with_each columns (take i row)) i column = g ∙ ap (λ (cs : List ColumnContents). get_or cs i column) e in
    let value : now ≡ with_value (get_or (with_each columns (take i row)) i column) (get_or row i v) = n ∙ (λ k. with_value (there k) (w k)) in
    (λ k. set (e k) i (value k)) ∙ next_each columns row i column v h l

pub each_refused : (columns : List ColumnContents) (row : Row) (i : ℕ) (items : List ColumnContents) (column now : ColumnContents)
    → items ≡ with_each columns (take i row) → column ≡ get_or items i column → now ≡ column → CutsBackTo columns (set items i now)
each_refused columns row i items column now e g n =
    let same : set items i now ≡ items = ap (λ (c : ColumnContents). set items i c) (n ∙ g) ∙ set-get_or items i column in
    subst (λ (cs : List ColumnContents). CutsBackTo columns cs) (sym (same ∙ e)) (cuts_back columns (take i row))

pub gathered_is : {E : Type 0} (result : Result ColumnContents E) (column : ColumnContents) (order : List ℕ) (wanted : ℕ → Value)
    → IfOk result (λ g. g ≡ gathered_column column order) → ((row : ℕ) → value_in_row column.values row ≡ wanted row) → IfOk result (λ g. g.values ≡ map wanted order)
gathered_is (Ok g) column order wanted e h = ap (λ (x : ColumnContents). x.values) e ∙ (λ i. map (λ row. h row i) order)
gathered_is (Err x) column order wanted e h = tt

pub pushed_rows : (schema : Columns) (count : ℕ) (before all now : List ColumnContents) (row : Row) → HoldsRows schema count before → AddsMissing schema before all
    → length schema ≤ length all → row_fits row schema ≡ true → now ≡ with_each all row → rows_across (count + 1) now ≡ rows_across count before ++ row ∷ []
pushed_rows schema count before all now row h a l f e =
    let held = still_holds schema count before all h a in
    ap (λ (cs : List ColumnContents). rows_across (count + 1) cs) e
    ∙ rows_grown count all row (have_values schema count all held.first) (types_for schema count all row held.first l f)
    ∙ ap (λ (rows : List Row). rows ++ row ∷ []) (a.rows count h.first)

pub pushed_holds : (schema : Columns) (count : ℕ) (before all now : List ColumnContents) (row : Row) → HoldsRows schema count before → AddsMissing schema before all
    → length schema ≤ length all → row_fits row schema ≡ true → now ≡ with_each all row → HoldsRows schema (count + 1) now
pushed_holds schema count before all now row h a l f e =
    subst (λ (cs : List ColumnContents). HoldsRows schema (count + 1) cs) (sym e) (grown_holds schema count all row (still_holds schema count before all h a) l f)

pub restored : (schema : Columns) (count : ℕ) (before all some now : List ColumnContents) → HoldsRows schema count before → AddsMissing schema before all
    → CutsBackTo all some → now ≡ map (first_values count) some → now ≡ all
restored schema count before all some now h a c e = e ∙ c.cut count (have_values schema count all (still_holds schema count before all h a).first)

pub on_err : {A E P : Type 0} (result : Result A E) → P → OnErr result P
on_err (Ok x) p = tt
on_err (Err x) p = p
