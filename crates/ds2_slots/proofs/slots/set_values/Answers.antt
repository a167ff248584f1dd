use Rattle.std.proofs.Common.{sym, ◌∙◌}
use Rattle.std.proofs.lemmas.Option.{slice_get_past}
use Rattle.ds2_slots.proofs.SlotValues.{set_end}
use Rattle.ds2_slots.proofs.slots.set_values.Goals as goal

pub returns-in_default : goal.returns-in_default
returns-in_default c =
    sym (set_end c.args.numbers.now c.args.values.now c.loop-place.slots c.loop-place.place (slice_get_past c.args.values.now c.loop-place.place c.in_default.ensures.lookup.3)) ∙ c.loop-place.invariant
