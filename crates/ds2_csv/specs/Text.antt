-- Text: the bytes of a table.
use Rattle.std.specs.Prelude.{List, [], ◌∷◌, ◌++◌, map}
use Rattle.ds2_base.specs.Bytes.{Bytes}
use Rattle.ds2_value.specs.Row.{Row}
use Rattle.ds2_csv_cells.specs.CellText.{type_text, cell_text}
use Rattle.ds2_table.specs.Table.{Contents}
use Rattle.ds2_value.specs.declared.schema.Column.{Column}
use Rattle.ds2_csv.specs.Records.{text_of_rows}

-- a column's cell in the header: its name, one blank and its type
abbrev pub heading_text : Column → Bytes
heading_text c = c.name ++ 32 ∷ type_text c.ty

-- the cells of a row under its columns
unfoldable pub cells_text : List Column → Row → List Bytes
cells_text [] values = []
cells_text (c ∷ cs) [] = []
cells_text (c ∷ cs) (v ∷ vs) = cell_text c.ty v ∷ cells_text cs vs

-- the bytes of a table: its header and then its rows
unfoldable pub text : Contents → Bytes
text t = text_of_rows (map heading_text t.columns ∷ map (cells_text t.columns) t.rows)
