use Rattle.std.proofs.Common.{◌∙◌, ap, arith, length, sym}
use Rattle.std.specs.Prelude.{not}
use Rattle.ds2_csv_records.specs.Reading.{records_left}
use Rattle.ds2_csv.specs.Typed.{are_confirmed, under_headings}
use Rattle.ds2_csv.proofs.HeaderLemmas.{handed_on}
use Rattle.ds2_csv.proofs.Knowing.{columns-wide, known-said, rows-all, rows-stopped, sheet-said}
use Rattle.ds2_csv.proofs.TypedLemmas.{confirmed-has, confirmed-types, confirmed-whole, nothing-bad, own-count}
use Rattle.ds2_csv.proofs.read.supposed_table.Goals as goal

pub read_rows-requires-clause-few : goal.read_rows-requires-clause-few
read_rows-requires-clause-few c =
    let wide = columns-wide c.as_slice-columns.result.now c.args.headings.now c.requires.first.0
    (c.as_slice-columns.ensures ∙ c.columns.ensures.value ∙ c.in_ok-supposed.ensures c.requires.first.0 c.requires.first.1) in
    let few = c.requires.few in
    omega (arith, wide, few)

pub read_rows-requires-clause-count : goal.read_rows-requires-clause-count
read_rows-requires-clause-count c =
    let wide = columns-wide c.as_slice-columns.result.now c.args.headings.now c.requires.first.0
    (c.as_slice-columns.ensures ∙ c.columns.ensures.value ∙ c.in_ok-supposed.ensures c.requires.first.0 c.requires.first.1) in
    let count = c.in_ok-known.ensures.count in
    omega (arith, wide, count)

pub returns-in_err-typed : goal.returns-in_err-typed
returns-in_err-typed c =
    let wide = columns-wide c.as_slice-columns.result.now c.args.headings.now c.requires.first.0
    (c.as_slice-columns.ensures ∙ c.columns.ensures.value ∙ c.in_ok-supposed.ensures c.requires.first.0 c.requires.first.1) in
    handed_on c.from_residual-in_err-typed.result c.in_err-typed.field-0.0 (under_headings c.args.headings.now (records_left c.args.below.now)) c.from_residual-in_err-typed.ensures.1
    (rows-stopped c.args.headings.now c.as_slice-columns.result.now c.args.below.now c.in_err-typed.field-0.0 wide c.in_err-typed.ensures.read)

pub into_table-requires-clause-types : goal.into_table-requires-clause-types
into_table-requires-clause-types c =
    let same = confirmed-types c.as_slice-columns.result.now c.in_ok-schema.schema
    (ap (are_confirmed c.as_slice-columns.result.now) (sym (c.as_slice-then-is_none.ensures ∙ c.columns-then-is_none.ensures.value)) ∙ sym c.are_confirmed.ensures ∙ c.if-are_confirmed.true) in
    confirmed-has c.in_ok-typed.typed c.as_slice-columns.result.now c.in_ok-schema.schema (length c.in_ok-typed.typed.known) same
    (own-count c.in_ok-typed.typed c.as_slice-columns.result.now _ c.in_ok-typed.ensures.types)

pub into_table-requires-clause-whole : goal.into_table-requires-clause-whole
into_table-requires-clause-whole c =
    let wide = columns-wide c.as_slice-columns.result.now c.args.headings.now c.requires.first.0
    (c.as_slice-columns.ensures ∙ c.columns.ensures.value ∙ c.in_ok-supposed.ensures c.requires.first.0 c.requires.first.1) in
    let all = rows-all c.args.headings.now c.as_slice-columns.result.now c.in_ok-typed.typed c.args.below.now wide c.in_ok-typed.ensures.read c.if-not-typed.false in
    let same = confirmed-types c.as_slice-columns.result.now c.in_ok-schema.schema
    (ap (are_confirmed c.as_slice-columns.result.now) (sym (c.as_slice-then-is_none.ensures ∙ c.columns-then-is_none.ensures.value)) ∙ sym c.are_confirmed.ensures ∙ c.if-are_confirmed.true) in
    let none = nothing-bad c.in_ok-typed.typed.bad (c.is_none.ensures ∙ ap not c.if-is_none.true) in
    (all.0, confirmed-whole c.in_ok-typed.typed c.as_slice-columns.result.now c.in_ok-schema.schema all.0 same none all.3)

pub returns-then-are_confirmed : goal.returns-then-are_confirmed
returns-then-are_confirmed c =
    let wide = columns-wide c.as_slice-columns.result.now c.args.headings.now c.requires.first.0
    (c.as_slice-columns.ensures ∙ c.columns.ensures.value ∙ c.in_ok-supposed.ensures c.requires.first.0 c.requires.first.1) in
    let all = rows-all c.args.headings.now c.as_slice-columns.result.now c.in_ok-typed.typed c.args.below.now wide c.in_ok-typed.ensures.read c.if-not-typed.false in
    let same = confirmed-types c.as_slice-columns.result.now c.in_ok-schema.schema
    (ap (are_confirmed c.as_slice-columns.result.now) (sym (c.as_slice-then-is_none.ensures ∙ c.columns-then-is_none.ensures.value)) ∙ sym c.are_confirmed.ensures ∙ c.if-are_confirmed.true) in
    let none = nothing-bad c.in_ok-typed.typed.bad (c.is_none.ensures ∙ ap not c.if-is_none.true) in
    sheet-said c.args.headings.now c.in_ok-schema.schema (records_left c.args.below.now) all.0 c.into_table.result all.2 (c.in_ok-schema.ensures all.0 (rw c.as_slice.ensures all.1))
    (c.into_table.ensures all.0 (confirmed-whole c.in_ok-typed.typed c.as_slice-columns.result.now c.in_ok-schema.schema all.0 same none all.3))

pub typed_table-requires : goal.typed_table-requires
typed_table-requires c =
    let wide = columns-wide c.as_slice-columns.result.now c.args.headings.now c.requires.first.0
    (c.as_slice-columns.ensures ∙ c.columns.ensures.value ∙ c.in_ok-supposed.ensures c.requires.first.0 c.requires.first.1) in
    let all = rows-all c.args.headings.now c.as_slice-columns.result.now c.in_ok-typed.typed c.args.below.now wide c.in_ok-typed.ensures.read c.if-not-typed.false in
    let anew = columns-wide c.in_ok-schema.schema c.args.headings.now all.0 (c.in_ok-schema.ensures all.0 (rw c.as_slice.ensures all.1)) in
    let few = c.requires.few in
    omega (arith, anew, few)

pub returns : goal.returns
returns c =
    let wide = columns-wide c.as_slice-columns.result.now c.args.headings.now c.requires.first.0
    (c.as_slice-columns.ensures ∙ c.columns.ensures.value ∙ c.in_ok-supposed.ensures c.requires.first.0 c.requires.first.1) in
    let all = rows-all c.args.headings.now c.as_slice-columns.result.now c.in_ok-typed.typed c.args.below.now wide c.in_ok-typed.ensures.read c.if-not-typed.false in
    let is = c.in_ok-schema.ensures all.0 (rw c.as_slice.ensures all.1) in
    known-said c.args.headings.now c.in_ok-schema.schema (records_left c.args.below.now) all.0 c.typed_table.result
    (columns-wide c.in_ok-schema.schema c.args.headings.now all.0 is) all.2 is c.typed_table.ensures
