-- Records: the rows of cells that a text spells, and the text of rows of cells.
use Rattle.std.specs.Prelude.{Bool, true, false, List, [], ◌∷◌, ◌++◌, if◌then◌else◌}
use Rattle.std.specs.List.{flat_map}
use Rattle.ds2_base.specs.Bytes.{Bytes}
use Rattle.csv.specs.Reading.{default_config, records, strip_bom}
use Rattle.csv.specs.Writing.{default_writer, row_text, field_text}

-- rows of cells
abbrev pub Rows : Type 0
Rows = List (List Bytes)

-- the records of a text, without a byte order mark at its start
unfoldable pub records_of : Bytes → Rows
records_of bytes = records default_config (strip_bom bytes)

-- the text of one cell, with quotes where it needs them
unfoldable pub field_of : Bytes → Bytes
field_of cell = field_text default_writer cell

-- what stands before a cell of a record
abbrev pub separator : Bool → Bytes
separator true = []
separator false = 44 ∷ []

-- the end of a record: one that shows no byte gets two quotes, which stand for its one empty cell
abbrev pub record_end : Bool → Bytes
record_end blank = (if blank then 34 ∷ 34 ∷ [] else []) ++ 10 ∷ []

-- the text of rows of cells, one after the other
unfoldable pub text_of_rows : Rows → Bytes
text_of_rows rows = flat_map (row_text default_writer) rows
