use Rattle.std.proofs.Common.{◌+◌, ◌-◌, drop, length, sym, ap, ◌∙◌}
use Rattle.ds2_reading.specs.KeyHeads.{level_of_head}
use Rattle.ds2_reading.specs.KeyOrder.{key_of_number, parts_in_common}
use Rattle.ds2_reading.proofs.Runs.{other_heads, same_heads_common}
use Rattle.ds2_reading.proofs.sorted_rows.common_at.Goals as goal

pub returns-then-head_of-head-clause-value : goal.returns-then-head_of-head-clause-value
returns-then-head_of-head-clause-value c =
    other_heads c.args.inputs.now c.requires.keys c.args.numbers.now c.requires.order.headed c.args.place c.if-place-eq0.false c.requires.place
    (λ e. c.if-head_of-head.true (c.head_of.ensures ∙ e ∙ sym c.head_of-head.ensures))

pub returns-clause-value : goal.returns-clause-value
returns-clause-value c =
    let input = c.args.inputs.now in
    c.parts_in_common.ensures.value
    ∙ (λ i. c.level_of_head.result
    + parts_in_common (length input.descending - c.level_of_head.result) (drop c.level_of_head.result (key_of_number input (c.row_of.ensures i)))
    (drop c.level_of_head.result (key_of_number input (c.row_of-2.ensures i))))
    ∙ same_heads_common input c.requires.keys c.args.numbers.now c.requires.order.headed c.args.place c.level_of_head.result c.if-place-eq0.false c.requires.place
    (sym c.head_of.ensures ∙ c.if-head_of-head.false ∙ c.head_of-head.ensures) (c.level_of_head.ensures.value ∙ ap (level_of_head input.descending) c.head_of-head.ensures)
