-- Rows that fit columns: how many values they have, and which of them stands where.
use Rattle.std.proofs.Common.{◌≡◌, ℕ, zero, suc, ◌<◌, List, [], ◌∷◌, length, get_or, refl, sym, ap, arith}
use Rattle.std.specs.Prelude.{Some, None, true, slice_get}
use Rattle.std.specs.Cmp.{first_so, second_so}
use Rattle.ds2_value.specs.Row.{Row, Columns}
use Rattle.ds2_value.specs.Schema.{row_fits}
use Rattle.ds2_value.specs.Types.{fits}
use Rattle.ds2_value.specs.Value.{or_null}
use Rattle.ds2_table.specs.Table.{rows_fit, table_value}

-- a row that fits has a value for each column
fitting_length : (row : Row) (columns : Columns) → row_fits row columns ≡ true → length columns ≡ length row
fitting_length [] [] h = refl
fitting_length [] (c ∷ cs) h = cc
fitting_length (v ∷ vs) [] h = cc
fitting_length (v ∷ vs) (c ∷ cs) h = ap (λ (n : ℕ). suc n) (fitting_length vs cs (second_so (fits v c.ty) (row_fits vs cs) h))

-- and so has each of rows that fit
pub widths : (rows : List Row) (columns : Columns) (i : ℕ) → rows_fit rows columns ≡ true → i < length rows → length columns ≡ length (get_or rows i [])
widths [] columns i h k = absurd (omega (arith, k))
widths (row ∷ rows) columns zero h k = fitting_length row columns (first_so (row_fits row columns) (rows_fit rows columns) h)
widths (row ∷ rows) columns (suc i) h k = widths rows columns i (second_so (row_fits row columns) (rows_fit rows columns) h) (omega (arith, k))

-- where there is no such row the value is null, and else that of the column in it
pub no_row : (rows : List Row) (i c : ℕ) → slice_get rows i ≡ None → or_null None ≡ table_value rows i c
no_row [] i c h = refl
no_row (row ∷ rows) zero c h = let none : Some row ≡ None = h in cc
no_row (row ∷ rows) (suc i) c h = no_row rows i c h

pub in_row : (rows : List Row) (i c : ℕ) (row : Row) → slice_get rows i ≡ Some row → or_null (slice_get row c) ≡ table_value rows i c
in_row [] i c row h = let none : None ≡ Some row = h in cc
in_row (r ∷ rows) zero c row h = let same : r ≡ row = cc in ap (λ (z : Row). or_null (slice_get z c)) (sym same)
in_row (r ∷ rows) (suc i) c row h = in_row rows i c row h
