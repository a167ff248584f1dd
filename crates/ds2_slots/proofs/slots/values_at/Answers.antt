use Rattle.std.proofs.Common.{[], ◌∷◌, ◌++◌, get_or, sym, ap, ◌∙◌}
use Rattle.std.specs.Prelude.{slice_get}
use Rattle.ds2_value.specs.Row.{Row}
use Rattle.ds2_value.specs.Value.{or_null}
use Rattle.ds2_value.specs.declared.value.Value.{Value}
use Rattle.ds2_slots.proofs.SlotValues.{values_next}
use Rattle.ds2_slots.proofs.slots.values_at.Goals as goal

pub loop-place-preserved : goal.loop-place-preserved
loop-place-preserved c =
    c.in_ok-push.ensures.ok ∙ ap (λ (v : Value). c.loop-place.row ++ v ∷ []) c.in_ok-value.ensures
    ∙ ap (λ (r : Row). r ++ or_null (slice_get c.args.slots.now (get_or c.args.numbers.now c.loop-place.place 0)) ∷ []) c.loop-place.invariant
    ∙ sym (values_next c.args.numbers.now c.args.slots.now c.loop-place.place c.loop-place-test.true)
