use Rattle.std.proofs.Common.{sym, ap, ◌∙◌, ◌+◌, ◌≡◌, ℕ, List, true, false, eq-eqb}
use Rattle.std.specs.Prelude.{not}
use Rattle.std.proofs.lemmas.Bool.{ne_eqb}
use Rattle.ds2_csv_records.specs.Cells.{bare_len}
use Rattle.ds2_csv_records.proofs.Cells.{quoted-took, quoted-stops, quoted-done}
use Rattle.ds2_csv_records.proofs.cell.quoted_len.Goals as goal
use Rattle.ds2_csv_records.proofs.cell.quoted_len.Goals.{then-c-eq34, else-c-eq34+else-not-within}

pub returns-then-not-within-clause-len : goal.returns-then-not-within-clause-len
returns-then-not-within-clause-len c =
    ap (λ n. c.bytes.i + n) (c.bare_len.ensures.len ∙ ap (λ (t : List ℕ). bare_len t) c.split_at.ensures.back)
    ∙ sym (quoted-stops c.args.text.now c.bytes.i c.bytes.within c.bytes-test.true c.bytes.invariant c.if-not-within.true (ne_eqb _ _ c.if-c-eq34.false))

differ : false ≡ true → ⊥
differ e = cc e

pub bytes-preserved : goal.bytes-preserved
bytes-preserved c = elim c.if-c-eq34.branch [
  | then-c-eq34 w ↦
      let quote = eq-eqb _ _ w.if-c-eq34.true in
      quoted-took c.args.text.now c.bytes.i c.bytes.within c.if-c-eq34.within c.bytes-test.true c.bytes.invariant
      (λ e. w.within-is ∙ ap not (e ∙ sym quote)) (λ e. (quote, w.within-is ∙ ap not e))
  | else-c-eq34+else-not-within w ↦
      let other = ne_eqb _ _ w.if-c-eq34.false in
      quoted-took c.args.text.now c.bytes.i c.bytes.within c.if-c-eq34.within c.bytes-test.true c.bytes.invariant
      (λ e. w.within-is ∙ e ∙ sym (ap not other)) (λ e. absurd (differ (sym e ∙ w.if-not-within.false)))
]

pub returns-clause-len : goal.returns-clause-len
returns-clause-len c = sym (quoted-done c.args.text.now c.bytes.i c.bytes.within c.bytes-test.false c.bytes.auto.i-end c.bytes.invariant)
