-- Laws: the text of rows is read as the rows, and is UTF-8 where each cell is.
use Rattle.std.specs.Prelude.{◌≡◌, ◌<◌, List, length}
use Rattle.std.specs.List.{AllByRecursion}
use Rattle.ds2_base.specs.Bytes.{Bytes}
use Rattle.csv.specs.Reading.{strip_bom}
use Rattle.ds2_csv_records.specs.Records.{Rows, records_of, text_of_rows}

-- a row with at least one cell
abbrev pub HasCell : List Bytes → Type 0
HasCell row = 0 < length row

-- rows of texts that are read again
pub record AreReadable (rows : Rows) : Type 0 where
  -- each row has a cell: one without is written like one with an empty cell
  pub full : AllByRecursion HasCell rows
  -- no byte order mark stands at the start of their text
  pub plain : strip_bom (text_of_rows rows) ≡ text_of_rows rows

-- the records of the text of rows are the rows
abbrev pub ReadsRecords : Type 0
ReadsRecords = (rows : Rows) → AreReadable rows → records_of (text_of_rows rows) ≡ rows
