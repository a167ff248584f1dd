use Rattle.std.proofs.Common.{◌≡◌, ◌++◌, map, drop}
use Rattle.ds2_generate.specs.OwnSlots.{kept_slot}
use Rattle.ds2_generate.proofs.slots.add_slots.Given as goal

abbrev pub invariant-types : goal.invariant-types
invariant-types l = l.slots ++ map (kept_slot l.name) (drop l.ty-index l.types) ≡ l.fn.slots ++ map (kept_slot l.name) l.types
