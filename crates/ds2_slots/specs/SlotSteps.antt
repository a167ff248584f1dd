-- The slots, one after the other.
use Rattle.std.specs.Prelude.{ℕ, slice_set}
use Rattle.ds2_value.specs.Row.{Row}
use Rattle.ds2_value.specs.declared.value.Value.TheVariants.{Null}
use Rattle.ds2_code.specs.declared.parts.SlotRole.{SlotRole}
use Rattle.ds2_code.specs.declared.parts.SlotRole.TheVariants.{Cleared, Kept, Column, Flag}

-- the slots with this one as `run` finds a slot of its role
abbrev pub with_slot_cleared : SlotRole → ℕ → Row → Row
with_slot_cleared Cleared n slots = slice_set slots n Null
with_slot_cleared Kept n slots = slots
with_slot_cleared Column n slots = slots
with_slot_cleared Flag n slots = slots
