use Rattle.std.proofs.Common.{◌+◌, ◌∙◌, [], drop, sym}
use Rattle.ds2_value.specs.Texts.{padded_cmp}
use Rattle.ds2_value.proofs.ByteLemmas.{blank-step, blanks-ended}
use Rattle.ds2_value.proofs.TextLemmas.{first-decides, second-decides}
use Rattle.ds2_reading.proofs.heads.order_to_blanks.Goals as goal

pub returns-then-is_ne : goal.returns-then-is_ne
returns-then-is_ne c =
    let step = sym c.characters.invariant ∙ blank-step c.characters.c-index c.args.rest.now c.characters-test.true in
    first-decides (padded_cmp c.args.rest.now []) c.cmp-order.result (padded_cmp (drop (c.characters.c-index + 1) c.args.rest.now) [])
    (rw c.cmp-order.ensures step) (sym c.is_ne.ensures ∙ c.if-is_ne.true)

pub characters-preserved : goal.characters-preserved
characters-preserved c =
    let step = sym c.characters.invariant ∙ blank-step c.characters.c-index c.args.rest.now c.characters-test.true in
    second-decides (padded_cmp c.args.rest.now []) c.cmp-order.result (padded_cmp (drop (c.characters.c-index + 1) c.args.rest.now) [])
    (rw c.cmp-order.ensures step) (sym c.is_ne.ensures ∙ c.if-is_ne.false)

pub returns : goal.returns
returns c = sym (blanks-ended c.characters.c-index c.args.rest.now c.characters-test.false) ∙ c.characters.invariant
