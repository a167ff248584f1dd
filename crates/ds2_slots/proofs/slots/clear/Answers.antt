use Rattle.std.proofs.Common.{sym, ap, ◌∙◌, List}
use Rattle.ds2_value.specs.declared.value.Value.{Value}
use Rattle.ds2_slots.specs.SlotSteps.{with_slot_cleared}
use Rattle.ds2_slots.proofs.SlotSteps.{cleared_next}
use Rattle.ds2_slots.proofs.slots.clear.Goals as goal

pub loop-number-preserved : goal.loop-number-preserved
loop-number-preserved c =
    c.clear_one.ensures ∙ ap (λ (z : List Value). with_slot_cleared c.index-parts-number.result.role c.loop-number.number z) c.loop-number.invariant
    ∙ sym (cleared_next c.args.parts.now c.loop-number.number c.args.slots.now c.index-parts-number.result c.loop-number-test.true c.index-parts-number.is)
