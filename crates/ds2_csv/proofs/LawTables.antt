-- The text of a table is read as the table.
use Rattle.std.proofs.Common.{◌≡◌, IsUtf8, ◌+◌, ◌*◌, ◌≤◌, ℕ, suc, true, false, List, [], ◌∷◌, length, refl, ap, ◌∙◌, arith}
use Rattle.std.specs.Prelude.{not, nat_lt, map, Option, Some, None, Result, Ok, Err, if◌then◌else◌}
use Rattle.std.specs.List.{AllByRecursion}
use Rattle.std.specs.Str.{is_utf8}
use Rattle.std.proofs.lemmas.Bool.{and_parts, eq-eqb, le-ltb}
use Rattle.std.proofs.lemmas.List.{length-map}
use Rattle.std.proofs.lemmas.Str.{is_utf8-from_IsUtf8}
use Rattle.csv.specs.Reading.{strip_bom}
use Rattle.ds2_table.specs.Table.{Contents, rows_fit, IsTable}
use Rattle.ds2_value.specs.Keeping.{IsHeld, FittingIsHeld}
use Rattle.ds2_value.specs.Schema.{distinct_names, types_in_bounds, row_fits}
use Rattle.ds2_value.specs.Types.{fits, in_bounds}
use Rattle.ds2_value.specs.declared.schema.Column.{Column}
use Rattle.ds2_value.specs.declared.value.Value.{Value}
use Rattle.ds2_csv_cells.specs.Laws.{CellsAreTexts, ReadsCells, ReadsTypes}
use Rattle.ds2_csv.specs.Columns.{columns_from}
use Rattle.ds2_csv.specs.Header.{headings_of}
use Rattle.ds2_csv.proofs.Writable.{IsNamed, IsWritable}
use Rattle.ds2_csv.specs.Law.{IsWithinLimits}
use Rattle.ds2_csv.specs.Reads.{table_of, under_columns, of_even_rows, of_rows, under_header, of_records, reads}
use Rattle.ds2_csv.specs.Records.{Rows, records_of, odd_from, text_of_rows}
use Rattle.ds2_csv.specs.Refusals.{of_file, with_first}
use Rattle.ds2_csv.specs.Text.{heading_text, cells_text, text}
use Rattle.ds2_csv.specs.Values.{value_at, values_from, rows_from}
use Rattle.ds2_csv.specs.declared.heading.Heading.{Heading}
use Rattle.ds2_csv.specs.declared.refusal.CsvKind.TheVariants.{TooLarge, NotUtf8}
use Rattle.ds2_csv.specs.declared.refusal.CsvRefusal.{CsvRefusal}
use Rattle.ds2_csv.proofs.LawHeading.{heading-begins}
use Rattle.ds2_csv.proofs.LawHeadings.{heading, headings-read, columns-read, header-text}
use Rattle.ds2_csv_records.specs.Laws.{HasCell, ReadsRecords}
use Rattle.ds2_csv.proofs.LawUtf8.{rows-text, no-mark}
use Rattle.ds2_csv.specs.declared.limits.TheConstants.{MOST_BYTES, MOST_CELLS, MOST_COLUMNS}

-- ---- rows

-- the cells of a row are as many as the columns, are texts, and are read as its values
row-long : (cs : List Column) (vs : List Value) → row_fits vs cs ≡ true → length (cells_text cs vs) ≡ length cs
unfolding cells_text
row-long [] [] fit = refl
row-long [] (v ∷ vs) fit = cc
row-long (c ∷ cs) [] fit = cc fit
row-long (c ∷ cs) (v ∷ vs) fit = ap (λ (n : ℕ). suc n) (row-long cs vs (and_parts (fits v c.ty) (row_fits vs cs) fit).1)

row-text : CellsAreTexts → (cs : List Column) (vs : List Value) → AllByRecursion IsHeld vs → AllByRecursion IsUtf8 (cells_text cs vs)
unfolding cells_text
row-text texts [] vs held = tt
row-text texts (c ∷ cs) [] held = tt
row-text texts (c ∷ cs) (v ∷ vs) held = (texts c.ty v held.0, row-text texts cs vs held.1)

row-read : ReadsCells → (row column : ℕ) (cs : List Column) (vs : List Value) → row_fits vs cs ≡ true → AllByRecursion IsHeld vs
    → values_from row column cs (cells_text cs vs) ≡ Ok vs
unfolding values_from cells_text
row-read law row column [] [] fit held = refl
row-read law row column [] (v ∷ vs) fit held = cc
row-read law row column (c ∷ cs) [] fit held = refl
row-read law row column (c ∷ cs) (v ∷ vs) fit held =
    let f = and_parts (fits v c.ty) (row_fits vs cs) fit in
    ap (λ (o : Option Value). with_first (value_at row column o) (values_from row (column + 1) cs (cells_text cs vs))) (law c.ty v f.0 held.0)
    ∙ ap (λ (r : Result (List Value) CsvRefusal). with_first (Ok v) r) (row-read law row (column + 1) cs vs f.1 held.1)

-- the same of all rows
rows-even : (cs : List Column) (row : ℕ) (rows : List (List Value)) → rows_fit rows cs ≡ true → odd_from (length cs) row (map (cells_text cs) rows) ≡ None
unfolding odd_from
rows-even cs row [] fit = refl
rows-even cs row (vs ∷ rows) fit =
    let f = and_parts (row_fits vs cs) (rows_fit rows cs) fit in
    ap (λ b. if b then odd_from (length cs) (row + 1) (map (cells_text cs) rows) else Some row) (eq-eqb (length (cells_text cs vs)) (length cs) (row-long cs vs f.0))
    ∙ rows-even cs (row + 1) rows f.1

rows-cells : (cs : List Column) (rows : List (List Value)) → 1 ≤ length cs → rows_fit rows cs ≡ true → AllByRecursion HasCell (map (cells_text cs) rows)
rows-cells cs [] some fit = tt
rows-cells cs (vs ∷ rows) some fit =
    let f = and_parts (row_fits vs cs) (rows_fit rows cs) fit in
    (omega (arith, row-long cs vs f.0), rows-cells cs rows some f.1)

rows-texts : CellsAreTexts → (cs : List Column) (rows : List (List Value)) → AllByRecursion (AllByRecursion IsHeld) rows → AllByRecursion (AllByRecursion IsUtf8) (map (cells_text cs) rows)
rows-texts texts cs [] held = tt
rows-texts texts cs (vs ∷ rows) held = (row-text texts cs vs held.0, rows-texts texts cs rows held.1)

rows-read : ReadsCells → (cs : List Column) (row : ℕ) (rows : List (List Value)) → rows_fit rows cs ≡ true → AllByRecursion (AllByRecursion IsHeld) rows
    → rows_from cs row (map (cells_text cs) rows) ≡ Ok rows
unfolding rows_from
rows-read law cs row [] fit held = refl
rows-read law cs row (vs ∷ rows) fit held =
    let f = and_parts (row_fits vs cs) (rows_fit rows cs) fit in
    ap (λ (r : Result (List Value) CsvRefusal). with_first r (rows_from cs (row + 1) (map (cells_text cs) rows))) (row-read law row 1 cs vs f.0 held.0)
    ∙ ap (λ (r : Result (List (List Value)) CsvRefusal). with_first (Ok vs) r) (rows-read law cs (row + 1) rows f.1 held.1)

-- ---- records

-- the table of even rows under the headings of its columns
even-read : ReadsCells → (cs : List Column) (rows : List (List Value)) → rows_fit rows cs ≡ true → AllByRecursion (AllByRecursion IsHeld) rows
    → length rows * length cs ≤ MOST_CELLS → of_even_rows (map heading cs) (map (cells_text cs) rows) ≡ Ok (record { columns = cs; rows = rows })
unfolding of_even_rows
even-read law cs rows fit held few =
    let cells : Rows = map (cells_text cs) rows in
    let size : length cells * length (map heading cs) ≡ length rows * length cs = ap (λ n. n * length (map heading cs)) (length-map rows (cells_text cs)) ∙ ap (λ n. length rows * n) (length-map cs heading) in
    let within : nat_lt MOST_CELLS (length cells * length (map heading cs)) ≡ false = ap (λ n. nat_lt MOST_CELLS n) size ∙ le-ltb MOST_CELLS (length rows * length cs) few in
    ap (λ b. if b then Err (of_file TooLarge) else under_columns (columns_from 0 (map heading cs) cells) cells) within
    ∙ ap (λ (columns : List Column). under_columns columns cells) (columns-read 0 cs cells)
    ∙ ap (λ (r : Result (List (List Value)) CsvRefusal). table_of cs r) (rows-read law cs 1 rows fit held)

records-read : ReadsCells → ReadsTypes → (t : Contents) → IsWritable t → of_records (map heading_text t.columns ∷ map (cells_text t.columns) t.rows) ≡ Ok t
unfolding of_records
records-read law types t w =
    let cs : List Column = t.columns in
    let cells : Rows = map (cells_text cs) t.rows in
    let s = and_parts (distinct_names cs) (types_in_bounds cs) w.schema in
    let few : nat_lt MOST_COLUMNS (length (map heading_text cs)) ≡ false = ap (λ n. nat_lt MOST_COLUMNS n) (length-map cs heading_text) ∙ le-ltb MOST_COLUMNS (length cs) w.few_columns in
    ap (λ b. if b then Err (of_file TooLarge) else under_header (headings_of (map heading_text cs)) cells) few
    ∙ ap (λ (r : Result (List Heading) CsvRefusal). under_header r cells) (headings-read types cs w.names s.1 s.0)
    ∙ ap (λ n. of_rows (odd_from n 1 cells) (map heading cs) cells) (length-map cs heading)
    ∙ ap (λ (o : Option ℕ). of_rows o (map heading cs) cells) (rows-even cs 1 t.rows w.rows)
    ∙ even-read law cs t.rows w.rows w.values w.few_cells

-- ---- bytes

plain-start : (cs : List Column) (rows : Rows) → 1 ≤ length cs → AllByRecursion IsNamed cs → strip_bom (text_of_rows (map heading_text cs ∷ rows)) ≡ text_of_rows (map heading_text cs ∷ rows)
plain-start [] rows some named = absurd (omega arith)
plain-start (c ∷ cs) rows some named =
    let b = heading-begins c named.0 in
    no-mark b.first (heading_text c) b.more (map heading_text cs) rows b.text_is b.no_mark

pub tables-read : ReadsCells → CellsAreTexts → ReadsTypes → ReadsRecords → (t : Contents) → IsWritable t → reads (text t) ≡ Ok t
unfolding reads text
tables-read law texts types records_law t w =
    let cs : List Column = t.columns in
    let records : Rows = map heading_text cs ∷ map (cells_text cs) t.rows in
    let s = and_parts (distinct_names cs) (types_in_bounds cs) w.schema in
    let some : HasCell (map heading_text cs) = let e = length-map cs heading_text in let f = w.some_column in omega arith in
    let full : AllByRecursion HasCell records = (some, rows-cells cs t.rows w.some_column w.rows) in
    let utf8 : AllByRecursion (AllByRecursion IsUtf8) records = (header-text types cs w.names s.1, rows-texts texts cs t.rows w.values) in
    let bytes : List ℕ = text_of_rows records in
    ap (λ b. if b then Err (of_file TooLarge) else if not (is_utf8 bytes) then Err (of_file NotUtf8) else of_records (records_of bytes)) (le-ltb MOST_BYTES (length bytes) w.few_bytes)
    ∙ ap (λ b. if not b then Err (of_file NotUtf8) else of_records (records_of bytes)) (is_utf8-from_IsUtf8 bytes (rows-text records utf8))
    ∙ ap of_records (records_law records (record { full = full; plain = plain-start cs (map (cells_text cs) t.rows) w.some_column w.names }))
    ∙ records-read law types t w

-- ---- a table as it is held

row-held : FittingIsHeld → (vs : List Value) (cs : List Column) → types_in_bounds cs ≡ true → row_fits vs cs ≡ true → AllByRecursion IsHeld vs
row-held held [] cs bounds fit = tt
row-held held (v ∷ vs) [] bounds fit = cc fit
row-held held (v ∷ vs) (c ∷ cs) bounds fit =
    let b = and_parts (in_bounds c.ty) (types_in_bounds cs) bounds in
    let f = and_parts (fits v c.ty) (row_fits vs cs) fit in
    (held v c.ty b.0 f.0, row-held held vs cs b.1 f.1)

rows-held : FittingIsHeld → (rows : List (List Value)) (cs : List Column) → types_in_bounds cs ≡ true → rows_fit rows cs ≡ true → AllByRecursion (AllByRecursion IsHeld) rows
rows-held held [] cs bounds fit = tt
rows-held held (vs ∷ rows) cs bounds fit =
    let f = and_parts (row_fits vs cs) (rows_fit rows cs) fit in
    (row-held held vs cs bounds f.0, rows-held held rows cs bounds f.1)

pub writable : FittingIsHeld → (t : Contents) → IsTable t → IsWithinLimits t → IsWritable t
writable held t table limits =
    let s = and_parts (distinct_names t.columns) (types_in_bounds t.columns) table.schema.rules in
    record {
      names = table.schema.names;
      schema = table.schema.rules;
      values = rows-held held t.rows t.columns s.1 table.rows;
      rows = table.rows;
      some_column = limits.some_column;
      few_columns = limits.few_columns;
      few_cells = limits.few_cells;
      few_bytes = limits.few_bytes;
    }
