-- Tables of outputs, row after row.
use Rattle.std.proofs.Common.{◌≡◌, ℕ, zero, suc, ◌+◌, ◌<◌, List, [], ◌∷◌, ◌++◌, length, map, take, get_or, sym, refl, ap, ◌∙◌, append_assoc, add-one, arith}
use Rattle.std.specs.Prelude.{slice_get}
use Rattle.ds2_value.specs.Row.{Row, Columns}
use Rattle.ds2_value.specs.Value.{or_null}
use Rattle.ds2_table.specs.Table.{Contents, with_row}
use Rattle.ds2_code.specs.Desk.{values_of_slots}

-- ---- a row

value_more : (columns : List (List ℕ × ℕ)) (slots : Row) (i : ℕ) (d : List ℕ × ℕ) → i < length columns
    → values_of_slots (map (λ (column : List ℕ × ℕ). column.1) (take (suc i) columns)) slots
    ≡ values_of_slots (map (λ (column : List ℕ × ℕ). column.1) (take i columns)) slots ++ or_null (slice_get slots (get_or columns i d).1) ∷ []
value_more [] slots i d h = absurd (omega (arith, h))
value_more (c ∷ columns) slots zero d h = refl
value_more (c ∷ columns) slots (suc i) d h = ap (λ z. or_null (slice_get slots c.1) ∷ z) (value_more columns slots i d (omega arith))

pub value_next : (columns : List (List ℕ × ℕ)) (slots : Row) (i : ℕ) (c : List ℕ × ℕ) → i < length columns → c ≡ get_or columns i c
    → values_of_slots (map (λ (column : List ℕ × ℕ). column.1) (take (i + 1) columns)) slots
    ≡ values_of_slots (map (λ (column : List ℕ × ℕ). column.1) (take i columns)) slots ++ or_null (slice_get slots c.1) ∷ []
value_next columns slots i c h e =
    ap (λ n. values_of_slots (map (λ (column : List ℕ × ℕ). column.1) (take n columns)) slots) (add-one i) ∙ value_more columns slots i c h
    ∙ ap (λ (z : List ℕ × ℕ). values_of_slots (map (λ (column : List ℕ × ℕ). column.1) (take i columns)) slots ++ or_null (slice_get slots z.1) ∷ []) (sym e)

-- a table of these columns and rows
abbrev with_rows : Columns → List Row → Contents
with_rows columns rows = record { columns = columns; rows = rows }

pub row_kept : (from before after : Contents) (so_far : List Row) (row want : Row) → after ≡ with_row before row → row ≡ want
    → before ≡ record { columns = from.columns; rows = from.rows ++ so_far } → after ≡ record { columns = from.columns; rows = from.rows ++ (so_far ++ want ∷ []) }
row_kept from before after so_far row want step same taken =
    let columns : Columns = from.columns in
    step
    ∙ ap (λ (t : Contents). with_row t row) taken
    ∙ ap (λ (r : Row). with_row (with_rows columns (from.rows ++ so_far)) r) same
    ∙ ap (with_rows columns) (append_assoc from.rows so_far (want ∷ []))

-- a table has taken rows behind its own
abbrev pub HasTaken : Contents → Contents → List Row → Type 0
HasTaken from now rows = now ≡ record { columns = from.columns; rows = from.rows ++ rows }
