use Rattle.std.proofs.Common.{sym, ◌∙◌, ◌==◌}
use Rattle.std.specs.Prelude.{◌||◌}
use Rattle.ds2_csv_records.proofs.Cells.{prefix-stops, prefix-whole}
use Rattle.ds2_csv_records.proofs.part.front_len.Goals as goal

pub returns-then-not-is_either-clause-len : goal.returns-then-not-is_either-clause-len
returns-then-not-is_either-clause-len c =
    prefix-stops (λ x. (x == c.args.mark) || (x == c.args.other)) c.args.text.now c.bytes.i c.bytes-test.true c.bytes.invariant (sym c.is_either.ensures ∙ c.if-not-is_either.true)

pub returns-clause-len : goal.returns-clause-len
returns-clause-len c = prefix-whole (λ x. (x == c.args.mark) || (x == c.args.other)) c.args.text.now c.bytes.i c.bytes-test.false c.bytes.auto.i-end c.bytes.invariant
