use Rattle.std.proofs.Common.{sym, ap, ◌∙◌}
use Rattle.std.specs.Prelude.{not}
use Rattle.ds2_csv_records.specs.Cells.{ends_cell}
use Rattle.ds2_csv_records.proofs.Cells.{prefix-stops, prefix-whole}
use Rattle.ds2_csv_records.proofs.cell.bare_len.Goals as goal

pub returns-then-ends_cell-clause-len : goal.returns-then-ends_cell-clause-len
returns-then-ends_cell-clause-len c =
    prefix-stops (λ x. not (ends_cell x)) c.args.text.now c.bytes.i c.bytes-test.true (λ k h. ap not (c.bytes.invariant k h)) (ap not (sym c.ends_cell.ensures ∙ c.if-ends_cell.true))

pub returns-clause-len : goal.returns-clause-len
returns-clause-len c =
    prefix-whole (λ x. not (ends_cell x)) c.args.text.now c.bytes.i c.bytes-test.false c.bytes.auto.i-end (λ k h. ap not (c.bytes.invariant k h))
