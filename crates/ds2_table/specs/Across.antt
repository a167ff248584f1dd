-- Rows that are read off columns.
use Rattle.std.specs.Prelude.{◌≡◌, ℕ, List, [], ◌∷◌, length, map, IsTrue}
use Rattle.std.specs.List.{AllByRecursion, range_with_len}
use Rattle.ds2_columns.specs.Columns.{ColumnContents, value_in_row, with_value, first_values}
use Rattle.ds2_value.specs.Row.{Row, Columns}
use Rattle.ds2_value.specs.Types.{fits}
use Rattle.ds2_table.specs.Table.{rows_fit}

-- the row of a number
abbrev pub row_across : List ColumnContents → ℕ → Row
row_across columns row = map (λ (column : ColumnContents). value_in_row column.values row) columns

-- so many rows
abbrev pub rows_across : ℕ → List ColumnContents → List Row
rows_across count columns = map (row_across columns) (range_with_len 0 count)

-- the columns of a schema, each with so many values
abbrev pub AreColumnsOf : Columns → ℕ → List ColumnContents → Type 0
AreColumnsOf [] count [] = Unit {0}
AreColumnsOf [] count (v ∷ vs) = ⊥
AreColumnsOf (c ∷ cs) count [] = ⊥
AreColumnsOf (c ∷ cs) count (v ∷ vs) = (v.ty ≡ c.ty) × (length v.values ≡ count) × AreColumnsOf cs count vs

-- the same, but where there are no values the last ones may lack
abbrev pub AreFirstColumns : Columns → ℕ → List ColumnContents → Type 0
AreFirstColumns [] count [] = Unit {0}
AreFirstColumns [] count (v ∷ vs) = ⊥
AreFirstColumns (c ∷ cs) count [] = count ≡ 0
AreFirstColumns (c ∷ cs) count (v ∷ vs) = (v.ty ≡ c.ty) × (length v.values ≡ count) × AreFirstColumns cs count vs

-- what a table keeps: columns, and rows read off them that fit
pub record HoldsRows (schema : Columns) (count : ℕ) (columns : List ColumnContents) : Type 0 where
  pub first : AreFirstColumns schema count columns
  pub fit : IsTrue (rows_fit (rows_across count columns) schema)

-- columns that say no less of a schema and no other rows
pub record AddsMissing (schema : Columns) (before now : List ColumnContents) : Type 0 where
  pub held : (count : ℕ) → AreFirstColumns schema count before → AreFirstColumns schema count now
  pub rows : (count : ℕ) → AreFirstColumns schema count before → rows_across count now ≡ rows_across count before

-- each value of a row is of its column's type
abbrev pub HaveTypesFor : List ColumnContents → Row → Type 0
HaveTypesFor [] [] = Unit {0}
HaveTypesFor [] (v ∷ vs) = ⊥
HaveTypesFor (c ∷ cs) [] = ⊥
HaveTypesFor (c ∷ cs) (v ∷ vs) = IsTrue (fits v c.ty) × HaveTypesFor cs vs

-- columns with one more value each; those behind the last value are as they were
abbrev pub with_each : List ColumnContents → Row → List ColumnContents
with_each [] row = []
with_each (c ∷ cs) [] = c ∷ cs
with_each (c ∷ cs) (v ∷ vs) = with_value c v ∷ with_each cs vs

-- each column has so many values
abbrev pub HaveValues : ℕ → List ColumnContents → Type 0
HaveValues count columns = AllByRecursion (λ (c : ColumnContents). length c.values ≡ count) columns

-- the first values of columns are all that they had before, where these were as many each
pub record CutsBackTo (before now : List ColumnContents) : Type 0 where
  pub cut : (count : ℕ) → HaveValues count before → map (first_values count) now ≡ before
