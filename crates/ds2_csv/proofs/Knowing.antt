-- What is known of columns, and the table of rows whose columns are known.
use Rattle.std.proofs.Common.{◌≡◌, ℕ, zero, suc, true, List, [], ◌∷◌, ◌++◌, Some, length, refl, sym, ap, subst, ◌∙◌, slice_get}
use Rattle.std.specs.Prelude.{Result, Ok, Err}
use Rattle.ds2_base.specs.Says.{Says}
use Rattle.ds2_base.specs.declared.stop.Stop.{Stop}
use Rattle.ds2_base.specs.declared.stop.Stop.TheVariants.{Refused, OutOfMemory}
use Rattle.ds2_csv_records.specs.Reading.{records_left}
use Rattle.ds2_table.specs.Table.{Contents}
use Rattle.ds2_value.specs.declared.schema.Column.{Column}
use Rattle.ds2_csv.specs.Columns.{columns_from}
use Rattle.ds2_csv_cells.specs.Inferred.{IsInferred}
use Rattle.ds2_csv.specs.Known.{AreInferred}
use Rattle.ds2_csv.specs.Reads.{under_columns}
use Rattle.ds2_csv.specs.Records.{Rows}
use Rattle.ds2_csv.specs.Sheet.{sheet_of, of_sheet}
use Rattle.ds2_csv.specs.Typed.{AreRowsRead, HasReadAll, under_headings}
use Rattle.ds2_csv.specs.declared.heading.Heading.{Heading}
use Rattle.ds2_csv_cells.specs.declared.inference.Inference.{Inference}
use Rattle.ds2_csv.specs.declared.refusal.CsvRefusal.{CsvRefusal}
use Rattle.ds2_csv.specs.declared.typed.Typed.{Typed}
use Rattle.ds2_csv.proofs.SchemaLemmas.{columns-count}

-- ---- no rows

pub known-none : AreInferred [] []
known-none k x e = cc e

pub known-more : (known new : List Inference) (y : Inference) → new ≡ known ++ (y ∷ []) → IsInferred y [] → AreInferred known [] → AreInferred new []
known-more known new y is one before k x e = by known k (rw is at e) (λ j z f. before j z f)
  where
    by : (xs : List Inference) (j : ℕ) → slice_get (xs ++ (y ∷ [])) j ≡ Some x → ((i : ℕ) (z : Inference) → slice_get xs i ≡ Some z → IsInferred z []) → IsInferred x []
    by [] zero f all = let same : y ≡ x = cc f in rw (← same) one
    by [] (suc j) f all = cc f
    by (w ∷ ws) zero f all = all zero x f
    by (w ∷ ws) (suc j) f all = by ws j f (λ i z g. all (suc i) z g)

pub none-counted : (known : List Inference) → known ≡ [] → (length known ≡ 0) × AreInferred known []
none-counted known e = rw e (refl, known-none)

-- ---- the table of rows whose columns are known

-- there is a column for each heading
pub columns-wide : (columns : List Column) (hs : List Heading) (rows : Rows) → columns ≡ columns_from 0 hs rows → length columns ≡ length hs
columns-wide columns hs rows is = ap (λ (t : List Column). length t) is ∙ columns-count 0 hs rows

-- what rows that were all read are, and what is known of them
pub rows-all : (hs : List Heading) (columns : List Column) (typed : Typed) (text : List ℕ) → length columns ≡ length hs → AreRowsRead (Ok typed) columns text → typed.ended ≡ true
    → (rows : Rows) × AreInferred typed.known rows × (sheet_of (length hs) (records_left text) ≡ Ok (record { width = length hs; rows = rows })) × HasReadAll typed columns rows
rows-all hs columns typed text wide read ended =
    let all = read.2 ended in
    (read.0, read.1.known, subst (λ (n : ℕ). sheet_of n (records_left text) ≡ Ok (record { width = n; rows = read.0 })) wide all.0, all.1)

-- the table of rows that make a sheet
pub sheet-said : (hs : List Heading) (schema : List Column) (rows seen : Rows) (result : Result Contents (Stop CsvRefusal)) → sheet_of (length hs) rows ≡ Ok (record { width = length hs; rows = seen })
    → schema ≡ columns_from 0 hs seen → Says result (under_columns schema seen) → Says result (under_headings hs rows)
sheet-said hs schema rows seen result sheet is said =
    let same : under_columns schema seen ≡ under_headings hs rows =
    ap (λ (t : List Column). under_columns t seen) is ∙ ap (of_sheet (λ even. under_columns (columns_from 0 hs even) even)) (sym sheet) in
    rw same at said

-- and where they are read once more
pub known-said : (hs : List Heading) (schema : List Column) (rows seen : Rows) (result : Result Contents (Stop CsvRefusal)) → length schema ≡ length hs
    → sheet_of (length hs) rows ≡ Ok (record { width = length hs; rows = seen }) → schema ≡ columns_from 0 hs seen
    → Says result (of_sheet (under_columns schema) (sheet_of (length schema) rows)) → Says result (under_headings hs rows)
known-said hs schema rows seen result count sheet is said =
    let same : of_sheet (under_columns schema) (sheet_of (length schema) rows) ≡ under_columns schema seen = ap (λ n. of_sheet (under_columns schema) (sheet_of n rows)) count ∙ ap (of_sheet (under_columns schema)) sheet in
    sheet-said hs schema rows seen result sheet is (rw same at said)

-- no sheet
pub rows-stopped : (hs : List Heading) (columns : List Column) (text : List ℕ) (stop : Stop CsvRefusal) → length columns ≡ length hs → AreRowsRead (Err stop) columns text
    → Says {T = Contents} (Err stop) (under_headings hs (records_left text))
rows-stopped hs columns text OutOfMemory count said = tt
rows-stopped hs columns text (Refused r) count said =
    ap (of_sheet (λ even. under_columns (columns_from 0 hs even) even)) (ap (λ n. sheet_of n (records_left text)) (sym count) ∙ said)
