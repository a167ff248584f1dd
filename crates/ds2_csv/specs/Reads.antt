-- Reads: the table that bytes spell, or the first reason why there is none.
use Rattle.std.specs.Prelude.{ℕ, ◌*◌, not, nat_lt, List, [], ◌∷◌, length, Option, Some, None, Result, Ok, Err, if◌then◌else◌}
use Rattle.std.specs.Str.{is_utf8}
use Rattle.ds2_base.specs.Bytes.{Bytes}
use Rattle.ds2_value.specs.Row.{Row}
use Rattle.ds2_table.specs.Table.{Contents}
use Rattle.ds2_value.specs.declared.schema.Column.{Column}
use Rattle.ds2_csv.specs.Columns.{columns_from}
use Rattle.ds2_csv.specs.Header.{headings_of}
use Rattle.ds2_csv.specs.Records.{Rows, records_of, odd_from}
use Rattle.ds2_csv.specs.Refusals.{of_file, of_row}
use Rattle.ds2_csv.specs.Values.{rows_from}
use Rattle.ds2_csv.specs.declared.heading.Heading.{Heading}
use Rattle.ds2_csv.specs.declared.limits.TheConstants.{MOST_BYTES, MOST_CELLS, MOST_COLUMNS}
use Rattle.ds2_csv.specs.declared.refusal.CsvKind.TheVariants.{TooLarge, NotUtf8, NoHeader, BadRecord}
use Rattle.ds2_csv.specs.declared.refusal.CsvRefusal.{CsvRefusal}

-- the table of these columns and rows
abbrev pub table_of : List Column → Result (List Row) CsvRefusal → Result Contents CsvRefusal
table_of columns (Err refusal) = Err refusal
table_of columns (Ok rows) = Ok (record { columns = columns; rows = rows })

-- the table of rows under columns
abbrev pub under_columns : List Column → Rows → Result Contents CsvRefusal
under_columns columns rows = table_of columns (rows_from columns 1 rows)

-- the table of rows of equal lengths under headings: at most `MOST_CELLS` cells
unfoldable pub of_even_rows : List Heading → Rows → Result Contents CsvRefusal
of_even_rows headings rows =
    if nat_lt MOST_CELLS (length rows * length headings) then Err (of_file TooLarge) else under_columns (columns_from 0 headings rows) rows

-- the table of rows under headings, the first row of another length told before
abbrev pub of_rows : Option ℕ → List Heading → Rows → Result Contents CsvRefusal
of_rows (Some odd) headings rows = Err (of_row BadRecord odd)
of_rows None headings rows = of_even_rows headings rows

-- the table under a header that was read
abbrev pub under_header : Result (List Heading) CsvRefusal → Rows → Result Contents CsvRefusal
under_header (Err refusal) rows = Err refusal
under_header (Ok headings) rows = of_rows (odd_from (length headings) 1 rows) headings rows

-- the table of records, the first of which is the header: at most `MOST_COLUMNS` cells
unfoldable pub of_records : Rows → Result Contents CsvRefusal
of_records [] = Err (of_file NoHeader)
of_records (header ∷ rows) = if nat_lt MOST_COLUMNS (length header) then Err (of_file TooLarge) else under_header (headings_of header) rows

-- the table that bytes spell: at most `MOST_BYTES` of them, which are UTF-8
unfoldable pub reads : Bytes → Result Contents CsvRefusal
reads bytes =
    if nat_lt MOST_BYTES (length bytes) then Err (of_file TooLarge)
    else if not (is_utf8 bytes) then Err (of_file NotUtf8)
    else of_records (records_of bytes)
