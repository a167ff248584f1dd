use Rattle.std.proofs.Common.{◌∙◌, [], arith, sym}
use Rattle.ds2_csv_records.specs.Reading.{records_left}
use Rattle.ds2_csv.specs.Typed.{under_headings}
use Rattle.ds2_csv.proofs.HeaderLemmas.{handed_on}
use Rattle.ds2_csv.proofs.Knowing.{columns-wide, rows-stopped}
use Rattle.ds2_csv.proofs.ReadLemmas.{typed-said}
use Rattle.ds2_csv.proofs.read.under_headings.Goals as goal

pub typed_table-requires : goal.typed_table-requires
typed_table-requires c =
    let is = c.in_ok-schema.ensures [] (rw c.as_slice.ensures c.in_ok-known.ensures.known) in
    let wide = columns-wide c.in_ok-schema.schema c.args.headings.now [] is in
    let few = c.requires.few in
    omega (arith, wide, few)

pub returns-then-are_typed : goal.returns-then-are_typed
returns-then-are_typed c =
    let is = c.in_ok-schema.ensures [] (rw c.as_slice.ensures c.in_ok-known.ensures.known) in
    typed-said c.args.headings.now c.in_ok-schema.schema [] (records_left c.args.below.now) c.typed_table.result (sym c.if-are_typed.ensures) is c.typed_table.ensures

pub read_rows-requires-clause-few : goal.read_rows-requires-clause-few
read_rows-requires-clause-few c =
    let is = c.in_ok-schema.ensures [] (rw c.as_slice.ensures c.in_ok-known.ensures.known) in
    let wide = columns-wide c.as_slice-columns.result.now c.args.headings.now [] (c.as_slice-columns.ensures ∙ c.columns.ensures.value ∙ is) in
    let few = c.requires.few in
    omega (arith, wide, few)

pub read_rows-requires-clause-count : goal.read_rows-requires-clause-count
read_rows-requires-clause-count c =
    let is = c.in_ok-schema.ensures [] (rw c.as_slice.ensures c.in_ok-known.ensures.known) in
    let wide = columns-wide c.as_slice-columns.result.now c.args.headings.now [] (c.as_slice-columns.ensures ∙ c.columns.ensures.value ∙ is) in
    let count = c.in_ok-known.ensures.count in
    omega (arith, wide, count)

pub returns-in_err-first : goal.returns-in_err-first
returns-in_err-first c =
    let is = c.in_ok-schema.ensures [] (rw c.as_slice.ensures c.in_ok-known.ensures.known) in
    let wide = columns-wide c.as_slice-columns.result.now c.args.headings.now [] (c.as_slice-columns.ensures ∙ c.columns.ensures.value ∙ is) in
    handed_on c.from_residual-in_err-first.result c.in_err-first.field-0.0 (under_headings c.args.headings.now (records_left c.args.below.now)) c.from_residual-in_err-first.ensures.1
    (rows-stopped c.args.headings.now c.as_slice-columns.result.now c.args.below.now c.in_err-first.field-0.0 wide c.in_err-first.ensures.read)

pub supposed_table-requires-clause-first : goal.supposed_table-requires-clause-first
supposed_table-requires-clause-first c = let read = c.in_ok-first.ensures.read in (read.0, rw c.as_slice-2.ensures read.1.known)
