use Rattle.std.proofs.Common.{◌≡◌, drop}
use Rattle.ds2_code.specs.Desk.{with_values_in}
use Rattle.ds2_slots.proofs.slots.set_values.Given as goal

abbrev pub invariant-loop-place : goal.invariant-loop-place
invariant-loop-place l = with_values_in (drop l.place l.numbers) (drop l.place l.values) l.slots ≡ with_values_in l.numbers l.values l.initial.slots
