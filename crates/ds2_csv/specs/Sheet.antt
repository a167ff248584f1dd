-- Sheets: rows of cells of one length.
use Rattle.std.specs.Prelude.{ℕ, ◌*◌, nat_lt, length, Option, Some, None, Result, Ok, Err, if◌then◌else◌}
use Rattle.ds2_table.specs.Table.{Contents}
use Rattle.ds2_csv.specs.Records.{Rows, odd_from}
use Rattle.ds2_csv.specs.Refusals.{of_file, of_row}
use Rattle.ds2_csv.specs.declared.limits.TheConstants.{MOST_CELLS}
use Rattle.ds2_csv.specs.declared.refusal.CsvKind.TheVariants.{TooLarge, BadRecord}
use Rattle.ds2_csv.specs.declared.refusal.CsvRefusal.{CsvRefusal}

-- rows of so many cells
pub record Sheet : Type 0 where
  pub width : ℕ
  pub rows : Rows

-- the sheet of rows, the first of another length told before: at most `MOST_CELLS` cells
abbrev pub sheet_by : Option ℕ → ℕ → Rows → Result Sheet CsvRefusal
sheet_by (Some odd) width rows = Err (of_row BadRecord odd)
sheet_by None width rows = if nat_lt MOST_CELLS (length rows * width) then Err (of_file TooLarge) else Ok (record { width = width; rows = rows })

-- the sheet of rows that are to have so many cells
unfoldable pub sheet_of : ℕ → Rows → Result Sheet CsvRefusal
sheet_of width rows = sheet_by (odd_from width 1 rows) width rows

-- what a sheet's rows make, where there is a sheet
abbrev pub of_sheet : (Rows → Result Contents CsvRefusal) → Result Sheet CsvRefusal → Result Contents CsvRefusal
of_sheet table (Err refusal) = Err refusal
of_sheet table (Ok sheet) = table sheet.rows
