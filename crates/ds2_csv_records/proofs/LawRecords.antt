-- The records of the text of rows are the rows.
use Rattle.std.proofs.Common.{◌≡◌, ◌+◌, ◌<◌, ◌≤◌, ◌∷◌, ◌++◌, [], ℕ, zero, suc, List, length, refl, ap, arith, length-append}
use Rattle.std.specs.Prelude.{if◌then◌else◌}
use Rattle.std.specs.List.{AllByRecursion}
use Rattle.csv.specs.Machine.{next_record}
use Rattle.csv.specs.Reading.{default_config, records_from, strip_bom}
use Rattle.csv.specs.Writing.{default_writer, is_blank, read_back, row_text, row_body}
use Rattle.csv.specs.declared.parser.State.TheVariants as st
use Rattle.csv.proofs.RoundTrip.{read-write}
use Rattle.ds2_csv_records.specs.Laws.{HasCell, ReadsRecords}
use Rattle.ds2_csv_records.specs.Records.{Rows, records_of, text_of_rows}

back-same : (r : List (List ℕ)) → HasCell r → read_back r ≡ r
back-same [] h = absurd (omega arith)
back-same (x ∷ xs) h = refl

-- each row is at least one byte
row-some : (r : List (List ℕ)) → 0 < length (row_text default_writer r)
row-some r =
    let tail : List ℕ = if is_blank default_writer r then 34 ∷ 34 ∷ [] else [] in
    omega (arith, length-append (row_body default_writer r) (tail ++ (10 ∷ [])), length-append tail (10 ∷ []))

rows-few : (rows : Rows) → length rows ≤ length (text_of_rows rows)
unfolding text_of_rows
rows-few [] = omega arith
rows-few (r ∷ rs) = omega (arith, row-some r, rows-few rs, length-append (row_text default_writer r) (text_of_rows rs))

-- as many records as there are rows, and then none
records-are : (n : ℕ) (rows : Rows) → length rows < n → AllByRecursion HasCell rows → records_from default_config n st.StartRecord (text_of_rows rows) ≡ rows
unfolding text_of_rows records_from next_record
records-are zero rows few a = absurd (omega arith)
records-are (suc n) [] few a = refl
records-are (suc n) (r ∷ rs) few a =
    rw (read-write r (text_of_rows rs)) (rw (back-same r a.0) (ap (λ (t : Rows). r ∷ t) (records-are n rs (omega arith) a.1)))

pub records-written : (rows : Rows) → AllByRecursion HasCell rows → strip_bom (text_of_rows rows) ≡ text_of_rows rows → records_of (text_of_rows rows) ≡ rows
unfolding records_of
records-written rows a plain = rw plain (records-are (length (text_of_rows rows) + 1) rows (omega (arith, rows-few rows)) a)

pub reads-records : ReadsRecords
reads-records rows a = records-written rows a.full a.plain
