use Rattle.std.proofs.Common.{◌∙◌}
use Rattle.ds2_value.proofs.ByteLemmas.{text_cmp-ascii}
use Rattle.ds2_value.proofs.order.text_order.Goals as goal

pub returns-then-is_ascii-2 : goal.returns-then-is_ascii-2
returns-then-is_ascii-2 c =
    c.byte_order.ensures ∙ rw (c.as_bytes.ensures.value, c.as_bytes-then-is_ascii-2.ensures.value) (text_cmp-ascii c.args.a.now c.args.b.now c.if-is_ascii.ensures.cases c.if-is_ascii-2.ensures.cases)
