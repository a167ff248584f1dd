-- Values: the values of rows of cells, or the first cell that has none.
use Rattle.std.specs.Prelude.{ℕ, ◌+◌, List, [], ◌∷◌, Option, Some, None, Result, Ok, Err}
use Rattle.ds2_base.specs.Bytes.{Bytes}
use Rattle.ds2_value.specs.Row.{Row}
use Rattle.ds2_value.specs.declared.schema.Column.{Column}
use Rattle.ds2_value.specs.declared.value.Value.{Value}
use Rattle.ds2_csv_cells.specs.Cells.{value_of}
use Rattle.ds2_csv.specs.Records.{Rows}
use Rattle.ds2_csv.specs.Refusals.{of_cell, with_first}
use Rattle.ds2_csv.specs.declared.refusal.CsvKind.TheVariants.{BadCell}
use Rattle.ds2_csv.specs.declared.refusal.CsvRefusal.{CsvRefusal}

-- the value that stands at a row and a column, or that the cell there has none
abbrev pub value_at : ℕ → ℕ → Option Value → Result Value CsvRefusal
value_at row column None = Err (of_cell BadCell row column)
value_at row column (Some v) = Ok v

-- the values of a row's cells, the first of which stands in this column
unfoldable pub values_from : ℕ → ℕ → List Column → List Bytes → Result Row CsvRefusal
values_from row column [] cells = Ok []
values_from row column (c ∷ cs) [] = Ok []
values_from row column (c ∷ cs) (cell ∷ cells) = with_first (value_at row column (value_of c.ty cell)) (values_from row (column + 1) cs cells)

-- the values of rows, the first of which is this row
unfoldable pub rows_from : List Column → ℕ → Rows → Result (List Row) CsvRefusal
rows_from columns row [] = Ok []
rows_from columns row (r ∷ rs) = with_first (values_from row 1 columns r) (rows_from columns (row + 1) rs)
