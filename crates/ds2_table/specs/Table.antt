-- Tables: columns and the rows that fit them.
use Rattle.std.specs.Prelude.{ℕ, Bool, List, [], ◌∷◌, ◌++◌, get_or, slice_get, IsTrue}
use Rattle.std.specs.List.{list_all}
use Rattle.ds2_value.specs.Row.{Row, Columns}
use Rattle.ds2_value.specs.Schema.{row_fits, IsSchema}
use Rattle.ds2_value.specs.Value.{or_null}
use Rattle.ds2_value.specs.declared.value.Value.{Value}

-- a table
pub record Contents : Type 0 where
  pub columns : Columns
  pub rows : List Row

-- every row fits the columns
abbrev pub rows_fit : List Row → Columns → Bool
rows_fit rows columns = list_all (λ row. row_fits row columns) rows

-- what holds of every table that is held: its columns are those of a schema, and its rows fit them
pub record IsTable (table : Contents) : Type 0 where
  pub schema : IsSchema table.columns
  pub rows : IsTrue (rows_fit table.rows table.columns)

-- the table of these columns without rows
abbrev pub empty_table : Columns → Contents
empty_table columns = record { columns = columns; rows = [] }

-- the table with one more row at its end
abbrev pub with_row : Contents → Row → Contents
with_row table row = record { columns = table.columns; rows = table.rows ++ row ∷ [] }

-- the value in a row and a column; null where there is no such row, or it has no such column
abbrev pub table_value : List Row → ℕ → ℕ → Value
table_value rows row column = or_null (slice_get (get_or rows row []) column)
