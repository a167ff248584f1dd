use Rattle.std.proofs.Common.{◌≤◌, ap, sym, ◌∙◌, length}
use Rattle.std.specs.Prelude.{Err}
use Rattle.std.proofs.lemmas.Bool.{ltb-false}
use Rattle.std.specs.Str.{IsUtf8}
use Rattle.ds2_csv.specs.declared.limits.TheConstants.{MOST_BYTES}
use Rattle.ds2_csv.specs.declared.refusal.CsvRefusal.{CsvRefusal}
use Rattle.ds2_csv.proofs.ReadLemmas.{reads-not, reads-text}
use Rattle.ds2_csv.proofs.read.read_table.Goals as goal

pub returns-in-Ok : goal.returns-in-Ok
returns-in-Ok c =
    let few : length c.args.bytes.now ≤ MOST_BYTES = rw c.as_slice-bytes.ensures at (ltb-false MOST_BYTES (length c.as_slice-bytes.result.now) (sym c.if-is_long.ensures)) in
    let good : IsUtf8 c.args.bytes.now = rw c.as_slice-bytes.ensures at c.in-Ok.ensures.cases.1 in
    let same = c.in-Ok.ensures.cases.0 ∙ c.as_slice-bytes.ensures in
    rw (reads-text c.args.bytes.now few good) (rw same at c.of_records.ensures)

pub returns-in-Err : goal.returns-in-Err
returns-in-Err c =
    let few : length c.args.bytes.now ≤ MOST_BYTES = rw c.as_slice-bytes.ensures at (ltb-false MOST_BYTES (length c.as_slice-bytes.result.now) (sym c.if-is_long.ensures)) in
    let bad : ¬ (IsUtf8 c.args.bytes.now) = rw c.as_slice-bytes.ensures at c.in-Err.ensures.cases.0 in
    reads-not c.args.bytes.now few bad ∙ ap (λ (r : CsvRefusal). Err r) (sym c.of_file-in-Err.ensures)
