use Rattle.std.proofs.Common.{◌≡◌, ◌++◌, map, drop}
use Rattle.ds2_program_code.specs.CodeParts.{layout_slot}
use Rattle.ds2_generate.proofs.slots.layout_slots.Given as goal

abbrev pub invariant-layout : goal.invariant-layout
invariant-layout l = l.slots ++ map layout_slot (drop l.slot-index l.layout) ≡ map layout_slot l.layout
