use Rattle.std.proofs.Common.{◌==◌, ap, eq-eqb}
use Rattle.std.specs.Prelude.{not}
use Rattle.std.proofs.lemmas.Bool.{ne_eqb}
use Rattle.ds2_csv_records.proofs.Cells.{prefix-stops, prefix-whole}
use Rattle.ds2_csv_records.proofs.cell.to_quote.Goals as goal

pub returns-then-c-eq34-clause-len : goal.returns-then-c-eq34-clause-len
returns-then-c-eq34-clause-len c =
    prefix-stops (λ x. not (x == 34)) c.args.text.now c.bytes.i c.bytes-test.true (λ k h. ap not (ne_eqb _ _ (c.bytes.invariant k h))) (ap not (eq-eqb _ _ c.if-c-eq34.true))

pub returns-clause-len : goal.returns-clause-len
returns-clause-len c =
    prefix-whole (λ x. not (x == 34)) c.args.text.now c.bytes.i c.bytes-test.false c.bytes.auto.i-end (λ k h. ap not (ne_eqb _ _ (c.bytes.invariant k h)))
