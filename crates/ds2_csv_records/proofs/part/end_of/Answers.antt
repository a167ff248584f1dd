use Rattle.std.proofs.Common.{length, sym, arith, eqb, eq-eqb}
use Rattle.std.proofs.lemmas.Bool.{ne_eqb}
use Rattle.std.proofs.lemmas.List.Sums.{position_or_len_is}
use Rattle.ds2_csv_records.proofs.part.end_of.Goals as goal

pub returns-then-c-mark-clause-end : goal.returns-then-c-mark-clause-end
returns-then-c-mark-clause-end c =
    sym (position_or_len_is (λ x. eqb x c.args.mark) c.args.text.now c.loop-i.i 0 (omega arith)
    (λ k h. ne_eqb _ _ (c.loop-i.invariant k h)) (λ h. eq-eqb _ _ c.if-c-mark.true))

pub returns-clause-end : goal.returns-clause-end
returns-clause-end c =
    sym (position_or_len_is (λ x. eqb x c.args.mark) c.args.text.now (length c.args.text.now) 0 (omega arith)
    (λ k h. ne_eqb _ _ (c.loop-i.invariant k (omega arith))) (λ h. absurd (omega arith)))
