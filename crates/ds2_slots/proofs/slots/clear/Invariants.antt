use Rattle.std.proofs.Common.{◌≡◌, take}
use Rattle.ds2_code.specs.CodeUnit.{without_cleared}
use Rattle.ds2_slots.proofs.slots.clear.Given as goal

abbrev pub invariant-loop-number : goal.invariant-loop-number
invariant-loop-number l = l.slots ≡ without_cleared (take l.number l.parts) l.initial.slots
