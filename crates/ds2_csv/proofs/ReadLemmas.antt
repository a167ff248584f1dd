-- What the records of a text make.
use Rattle.std.proofs.Common.{◌≡◌, ◌≤◌, ◌*◌, ℕ, Bool, true, false, List, [], ◌∷◌, Option, Some, None, length, map, sym, arith, refl, ap, ◌∙◌, ◌<◌}
use Rattle.std.specs.Prelude.{nat_lt, if◌then◌else◌, Result, Ok, Err}
use Rattle.std.specs.Str.{IsUtf8, is_utf8}
use Rattle.std.proofs.lemmas.Bool.{lt-ltb, le-ltb, false_from_ne_true}
use Rattle.std.proofs.lemmas.Str.{IsUtf8-from_is_utf8, is_utf8-from_IsUtf8}
use Rattle.ds2_base.specs.Says.{Says}
use Rattle.ds2_base.specs.declared.stop.Stop.{Stop}
use Rattle.ds2_base.specs.declared.stop.Stop.TheVariants.{Refused, OutOfMemory}
use Rattle.ds2_table.specs.Table.{Contents}
use Rattle.ds2_value.specs.declared.schema.Column.{Column}
use Rattle.ds2_csv.specs.Columns.{columns_from}
use Rattle.ds2_csv.specs.Header.{headings_of}
use Rattle.ds2_csv.specs.Reads.{under_columns, of_even_rows, of_rows, of_records, reads}
use Rattle.ds2_csv.specs.Records.{Rows, records_of, odd_from}
use Rattle.ds2_csv.specs.Refusals.{of_file}
use Rattle.ds2_csv.specs.Sheet.{Sheet, sheet_by, sheet_of, of_sheet}
use Rattle.ds2_csv.specs.Typed.{are_typed, under_headings}
use Rattle.ds2_csv.specs.declared.heading.Heading.{Heading}
use Rattle.ds2_csv.specs.declared.refusal.CsvRefusal.{CsvRefusal}
use Rattle.ds2_csv.specs.declared.refusal.CsvKind.TheVariants.{TooLarge, NotUtf8, NoHeader}
use Rattle.std.specs.Borrow.{Bor}
use Rattle.std.proofs.lemmas.List.{length-map, take_all}
use Rattle.csv.specs.Reading.{strip_bom}
use Rattle.ds2_csv_records.specs.Cells.{spelled}
use Rattle.ds2_csv_records.specs.Reading.{records_left, IsNext}
use Rattle.ds2_csv_records.specs.declared.cell.Cell.{Cell}
use Rattle.ds2_csv_records.specs.declared.read.Record.{Record}
use Rattle.ds2_csv.proofs.SchemaLemmas.{columns-count, columns-typed}
use Rattle.ds2_csv.specs.declared.limits.TheConstants.{MOST_BYTES, MOST_CELLS, MOST_COLUMNS}

-- the table below a header that was read
pub under-read : (header : List (List ℕ)) (rows : Rows) (hs : List Heading) → length header ≤ MOST_COLUMNS → headings_of header ≡ Ok hs → of_records (header ∷ rows) ≡ under_headings hs rows
unfolding of_records of_even_rows sheet_of
under-read header rows hs few read =
    let no : nat_lt MOST_COLUMNS (length header) ≡ false = le-ltb MOST_COLUMNS (length header) few in
    rw (no, read) (by (odd_from (length hs) 1 rows))
  where
    large : (b : Bool) → (if b then Err (of_file TooLarge) else under_columns (columns_from 0 hs rows) rows)
        ≡ of_sheet (λ even. under_columns (columns_from 0 hs even) even) (if b then Err (of_file TooLarge) else Ok (record { width = length hs; rows = rows }))
    large true = refl
    large false = refl

    by : (o : Option ℕ) → of_rows o hs rows ≡ of_sheet (λ even. under_columns (columns_from 0 hs even) even) (sheet_by o (length hs) rows)
    by (Some odd) = refl
    by None = large (nat_lt MOST_CELLS (length rows * length hs))

-- bytes that are not UTF-8, and those of a text
pub reads-not : (bytes : List ℕ) → length bytes ≤ MOST_BYTES → ¬ (IsUtf8 bytes) → reads bytes ≡ Err (of_file NotUtf8)
unfolding reads
reads-not bytes few bad =
    let no : nat_lt MOST_BYTES (length bytes) ≡ false = le-ltb MOST_BYTES (length bytes) few in
    let wrong : is_utf8 bytes ≡ false = false_from_ne_true (is_utf8 bytes) (λ e. bad (IsUtf8-from_is_utf8 bytes e)) in
    rw (no, wrong) refl

pub reads-text : (bytes : List ℕ) → length bytes ≤ MOST_BYTES → IsUtf8 bytes → reads bytes ≡ of_records (records_of bytes)
unfolding reads
reads-text bytes few good =
    let no : nat_lt MOST_BYTES (length bytes) ≡ false = le-ltb MOST_BYTES (length bytes) few in
    rw (no, is_utf8-from_IsUtf8 bytes good) refl

-- the columns are those of the headings over any rows, where each heading tells its type
pub typed-said : (hs : List Heading) (schema : List Column) (none rows : Rows) (result : Result Contents (Stop CsvRefusal)) → are_typed hs ≡ true → schema ≡ columns_from 0 hs none
    → Says result (of_sheet (under_columns schema) (sheet_of (length schema) rows)) → Says result (under_headings hs rows)
typed-said hs schema none rows result all is said =
    let count : length schema ≡ length hs = ap (λ (t : List Column). length t) is ∙ columns-count 0 hs none in
    let same : of_sheet (under_columns schema) (sheet_of (length schema) rows) ≡ under_headings hs rows =
    ap (λ n. of_sheet (under_columns schema) (sheet_of n rows)) count ∙ by (sheet_of (length hs) rows) in
    rw same at said
  where
    by : (s : Result Sheet CsvRefusal) → of_sheet (under_columns schema) s ≡ of_sheet (λ even. under_columns (columns_from 0 hs even) even) s
    by (Err refusal) = refl
    by (Ok sheet) = ap (λ (t : List Column). under_columns t sheet.rows) (is ∙ columns-typed 0 hs none sheet.rows all)

pub none-read : (rows : Rows) → rows ≡ [] → of_records rows ≡ Err (of_file NoHeader)
unfolding of_records
none-read rows e = rw e refl

pub wide-read : (header : List (List ℕ)) (rows all : Rows) → all ≡ header ∷ rows → MOST_COLUMNS < length header → of_records all ≡ Err (of_file TooLarge)
unfolding of_records
wide-read header rows all e wide = let yes : nat_lt MOST_COLUMNS (length header) ≡ true = lt-ltb MOST_COLUMNS (length header) wide in rw (e, yes) refl

pub stopped-read : (header : List (List ℕ)) (rows all : Rows) (stop : Stop CsvRefusal) → all ≡ header ∷ rows → length header ≤ MOST_COLUMNS → Says {T = List Heading} (Err stop) (headings_of header)
    → Says {T = Contents} (Err stop) (of_records all)
unfolding of_records
stopped-read header rows all OutOfMemory e few said = tt
stopped-read header rows all (Refused r) e few said =
    let no : nat_lt MOST_COLUMNS (length header) ≡ false = le-ltb MOST_COLUMNS (length header) few in
    rw (e, no, said) refl

-- ---- the header

left-all : (text bare : List ℕ) → bare ≡ strip_bom text → records_left bare ≡ records_of text
unfolding records_left records_of
left-all text bare e = rw e refl

pub no-header : (text bare : List ℕ) → bare ≡ strip_bom text → records_left bare ≡ [] → of_records (records_of text) ≡ Err (of_file NoHeader)
no-header text bare e none = none-read (records_of text) (sym (left-all text bare e) ∙ none)

pub wide-header : (text bare : List ℕ) (row : Record) (below : Bor (List ℕ)) → bare ≡ strip_bom text → IsNext (Some below) row MOST_COLUMNS bare → MOST_COLUMNS < row.count
    → of_records (records_of text) ≡ Err (of_file TooLarge)
wide-header text bare row below e next many =
    let long : MOST_COLUMNS < length next.0 = let n = next.2.count in omega (arith, n, many) in
    wide-read next.0 (records_left below.now) (records_of text) (sym (left-all text bare e) ∙ next.1) long

-- a header that was read whole
pub record IsHeader (text : List ℕ) (slice : List Cell) (below : List ℕ) : Type 0 where
  pub records : records_of text ≡ map spelled slice ∷ records_left below
  pub few : length slice ≤ MOST_COLUMNS
  pub few_cells : length (map spelled slice) ≤ MOST_COLUMNS

pub read-header : (text bare : List ℕ) (row : Record) (slice : List Cell) (below : Bor (List ℕ)) → bare ≡ strip_bom text → IsNext (Some below) row MOST_COLUMNS bare → row.count ≤ MOST_COLUMNS
    → slice ≡ row.cells → IsHeader text slice below.now
read-header text bare row slice below e next few is =
    let whole : map spelled row.cells ≡ next.0 = next.2.kept ∙ take_all MOST_COLUMNS next.0 (let n = next.2.count in omega (arith, n, few)) in
    let cells : map spelled slice ≡ next.0 = ap (λ (t : List Cell). map spelled t) is ∙ whole in
    let long = ap (λ (t : List (List ℕ)). length t) cells in
    let count = length-map slice spelled in
    let n = next.2.count in
    record {
      records = sym (left-all text bare e) ∙ next.1 ∙ ap (λ (t : List (List ℕ)). t ∷ records_left below.now) (sym cells);
      few = omega (arith, long, count, n, few);
      few_cells = omega (arith, long, n, few);
    }
