use Rattle.std.proofs.Common.{◌≡◌, ap, sym, ◌∙◌, arith, length, map, List, Some, None}
use Rattle.std.specs.Prelude.{Err}
use Rattle.std.proofs.lemmas.Bool.{ltb-true, ltb-false}
use Rattle.ds2_csv_records.specs.Cells.{spelled}
use Rattle.ds2_csv_records.specs.Reading.{IsNext, records_left}
use Rattle.ds2_csv.specs.Reads.{of_records}
use Rattle.ds2_csv.specs.Records.{records_of}
use Rattle.ds2_csv.specs.declared.heading.Heading.{Heading}
use Rattle.ds2_csv.specs.declared.limits.TheConstants.{MOST_COLUMNS}
use Rattle.ds2_csv.specs.declared.refusal.CsvRefusal.{CsvRefusal}
use Rattle.ds2_csv.proofs.HeaderLemmas.{handed_on}
use Rattle.ds2_csv.proofs.ReadLemmas.{no-header, wide-header, read-header, stopped-read, under-read}
use Rattle.ds2_csv.proofs.SchemaLemmas.{headings-count, headings-schema}
use Rattle.ds2_csv.proofs.read.of_records.Goals as goal

pub returns-in_default : goal.returns-in_default
returns-in_default c =
    let none : IsNext None c.next_record.new.row MOST_COLUMNS c.without_mark.result.now = rw c.in_default.is at c.in_ok-below.ensures in
    no-header c.args.text.now c.without_mark.result.now c.without_mark.ensures none ∙ ap (λ (r : CsvRefusal). Err r) (sym c.of_file.ensures)

pub returns-then-is_wide : goal.returns-then-is_wide
returns-then-is_wide c =
    let next : IsNext (Some c.in-Some.below) c.next_record.new.row MOST_COLUMNS c.without_mark.result.now = rw c.in-Some.is at c.in_ok-below.ensures in
    wide-header c.args.text.now c.without_mark.result.now c.next_record.new.row c.in-Some.below c.without_mark.ensures next (ltb-true MOST_COLUMNS c.next_record.new.row.count (sym c.if-is_wide.ensures))
    ∙ ap (λ (r : CsvRefusal). Err r) (sym c.of_file-then-is_wide.ensures)

pub headings-requires : goal.headings-requires
headings-requires c =
    let next : IsNext (Some c.in-Some.below) c.next_record.new.row MOST_COLUMNS c.without_mark.result.now = rw c.in-Some.is at c.in_ok-below.ensures in
    (read-header c.args.text.now c.without_mark.result.now c.next_record.new.row c.as_slice.result.now c.in-Some.below c.without_mark.ensures next (ltb-false MOST_COLUMNS c.next_record.new.row.count (sym c.if-is_wide.ensures)) c.as_slice.ensures).few

pub returns-in_err-headings : goal.returns-in_err-headings
returns-in_err-headings c =
    let next : IsNext (Some c.in-Some.below) c.next_record.new.row MOST_COLUMNS c.without_mark.result.now = rw c.in-Some.is at c.in_ok-below.ensures in
    let header = read-header c.args.text.now c.without_mark.result.now c.next_record.new.row c.as_slice.result.now c.in-Some.below c.without_mark.ensures next (ltb-false MOST_COLUMNS c.next_record.new.row.count (sym c.if-is_wide.ensures)) c.as_slice.ensures in
    handed_on c.from_residual-in_err-headings.result c.in_err-headings.field-0.0 _ c.from_residual-in_err-headings.ensures.1
    (stopped-read (map spelled c.as_slice.result.now) (records_left c.in-Some.below.now) (records_of c.args.text.now) c.in_err-headings.field-0.0 header.records header.few_cells c.in_err-headings.ensures)

pub under_headings-requires-clause-schema : goal.under_headings-requires-clause-schema
under_headings-requires-clause-schema c rows = rw c.as_slice-2.ensures (headings-schema (map spelled c.as_slice.result.now) c.in_ok-headings.headings rows c.in_ok-headings.ensures)

pub under_headings-requires-clause-few : goal.under_headings-requires-clause-few
under_headings-requires-clause-few c =
    let next : IsNext (Some c.in-Some.below) c.next_record.new.row MOST_COLUMNS c.without_mark.result.now = rw c.in-Some.is at c.in_ok-below.ensures in
    let header = read-header c.args.text.now c.without_mark.result.now c.next_record.new.row c.as_slice.result.now c.in-Some.below c.without_mark.ensures next (ltb-false MOST_COLUMNS c.next_record.new.row.count (sym c.if-is_wide.ensures)) c.as_slice.ensures in
    let same : length c.as_slice-2.result.now ≡ length (map spelled c.as_slice.result.now) =
    ap (λ (t : List Heading). length t) c.as_slice-2.ensures ∙ headings-count (map spelled c.as_slice.result.now) c.in_ok-headings.headings c.in_ok-headings.ensures in
    let few = header.few_cells in
    omega (arith, same, few)

pub returns : goal.returns
returns c =
    let next : IsNext (Some c.in-Some.below) c.next_record.new.row MOST_COLUMNS c.without_mark.result.now = rw c.in-Some.is at c.in_ok-below.ensures in
    let header = read-header c.args.text.now c.without_mark.result.now c.next_record.new.row c.as_slice.result.now c.in-Some.below c.without_mark.ensures next (ltb-false MOST_COLUMNS c.next_record.new.row.count (sym c.if-is_wide.ensures)) c.as_slice.ensures in
    let whole = ap of_records header.records ∙ under-read (map spelled c.as_slice.result.now) (records_left c.in-Some.below.now) c.in_ok-headings.headings header.few_cells c.in_ok-headings.ensures in
    rw whole (rw c.as_slice-2.ensures at c.under_headings.ensures)
