use Rattle.std.proofs.Common.{ℕ, List, Option, get_or, sym, ap, ◌∙◌}
use Rattle.std.specs.Prelude.{nat_eq}
use Rattle.ds2_slots.specs.SlotHashes.{meaning_of_shift, with_shifted_where}
use Rattle.ds2_slots.proofs.Shifts.{shift_next}
use Rattle.ds2_slots.proofs.shift.shift_all.Goals as goal

pub loop-number-preserved : goal.loop-number-preserved
loop-number-preserved c =
    c.shift_where.ensures
    ∙ ap (λ (z : List (Option ℕ)). with_shifted_where (nat_eq (get_or c.args.objects.now c.loop-number.number 0) c.args.object) (meaning_of_shift c.args.shift) c.loop-number.number z) c.loop-number.invariant
    ∙ sym (shift_next (meaning_of_shift c.args.shift) c.args.object c.args.objects.now c.loop-number.number c.args.iterators.now c.loop-number-test.true)
