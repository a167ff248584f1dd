-- Columns: the columns of a header, with the types that their cells have where it tells none.
use Rattle.std.specs.Prelude.{ℕ, ◌+◌, List, [], ◌∷◌, map, slice_get, unwrap_or}
use Rattle.ds2_base.specs.Bytes.{Bytes}
use Rattle.ds2_value.specs.declared.schema.Column.{Column}
use Rattle.ds2_csv_cells.specs.ColumnTypes.{type_of_cells}
use Rattle.ds2_csv.specs.Records.{Rows}
use Rattle.ds2_csv.specs.declared.heading.Heading.{Heading}

-- the cell of a row in a column, which counts from 0
abbrev pub cell_at : ℕ → List Bytes → Bytes
cell_at column row = unwrap_or (slice_get row column) []

-- the cells of a column
abbrev pub cells_of : ℕ → Rows → List Bytes
cells_of column rows = map (cell_at column) rows

-- the column of a heading over its cells
abbrev pub column_of : Heading → List Bytes → Column
column_of heading cells = record { name = heading.name; ty = unwrap_or heading.ty (type_of_cells cells) }

-- the columns of headings over rows, the first of which is this column
unfoldable pub columns_from : ℕ → List Heading → Rows → List Column
columns_from column [] rows = []
columns_from column (h ∷ hs) rows = column_of h (cells_of column rows) ∷ columns_from (column + 1) hs rows
