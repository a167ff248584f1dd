use Rattle.std.proofs.Common.{◌≡◌, take}
use Rattle.ds2_code.specs.Desk.{values_of_slots}
use Rattle.ds2_slots.proofs.slots.values_at.Given as goal

abbrev pub invariant-loop-place : goal.invariant-loop-place
invariant-loop-place l = l.row ≡ values_of_slots (take l.place l.numbers) l.slots
