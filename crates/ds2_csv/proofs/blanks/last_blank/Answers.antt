use Rattle.std.proofs.Common.{◌≡◌, ◌<◌, Some, length, take, ap, sym, ◌∙◌, add-one}
use Rattle.std.specs.Prelude.{if◌then◌else◌}
use Rattle.ds2_csv_cells.specs.Spelling.{is_blank}
use Rattle.ds2_csv.specs.Header.{last_place}
use Rattle.ds2_csv.proofs.BlankLemmas.{last-bounds, last-took, take-whole}
use Rattle.ds2_csv.proofs.blanks.last_blank.Goals as goal
use Rattle.ds2_csv.proofs.blanks.last_blank.Goals.{then-is_blank, else-is_blank}

pub bytes-preserved : goal.bytes-preserved
bytes-preserved c =
    let lt : c.bytes.i < length c.args.bytes.now = c.bytes-test.true in
    let took = last-took is_blank c.args.bytes.now c.bytes.i lt in
    rw add-one (elim c.if-is_blank.branch [
      | then-is_blank w ↦ w.last-is ∙ sym (took ∙ ap (λ b. if b then Some c.bytes.i else last_place is_blank (take c.bytes.i c.args.bytes.now)) (sym c.is_blank.ensures ∙ w.if-is_blank.true))
      | else-is_blank w ↦ w.last-is ∙ c.bytes.invariant ∙ sym (took ∙ ap (λ b. if b then Some c.bytes.i else last_place is_blank (take c.bytes.i c.args.bytes.now)) (sym c.is_blank.ensures ∙ w.if-is_blank.false))
    ])

place : (c : goal.After-bytes) → c.bytes.last ≡ last_place is_blank c.args.bytes.now
place c = c.bytes.invariant ∙ ap (last_place is_blank) (take-whole c.args.bytes.now c.bytes.i c.bytes-test.false)

pub returns-clause-place : goal.returns-clause-place
returns-clause-place c = place c

pub returns-clause-within : goal.returns-clause-within
returns-clause-within c = (last-bounds c.args.bytes.now c.bytes.last (place c)).0

pub returns-clause-blank : goal.returns-clause-blank
returns-clause-blank c = (last-bounds c.args.bytes.now c.bytes.last (place c)).1
