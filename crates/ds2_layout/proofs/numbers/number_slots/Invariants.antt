use Rattle.std.proofs.Common.{◌≡◌, ℕ, List, drop}
use Rattle.std.specs.HashMap.{get_by_text}
use Rattle.std.specs.List.{position_from}
use Rattle.ds2_meaning.specs.Location.{is_same_location}
use Rattle.ds2_layout.specs.declared.slot.LayoutSlot.{LayoutSlot}
use Rattle.ds2_layout.specs.Layout.{location_of_slot, slot_at}
use Rattle.ds2_layout.specs.SlotSearch.{earlier_number, own_variable}
use Rattle.ds2_layout.proofs.numbers.number_slots.Given as goal

abbrev pub invariant-slots : goal.invariant-slots
invariant-slots l = (other : List ℕ) →
    earlier_number (get_by_text l.numbers other) (position_from (λ (slot : LayoutSlot). is_same_location (location_of_slot slot) (own_variable other)) l.at (drop l.slot-index l.slots))
    ≡ slot_at l.slots (own_variable other)
