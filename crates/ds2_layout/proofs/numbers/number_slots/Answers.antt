use Rattle.std.proofs.Common.{◌≡◌, None, ap, ◌∙◌}
use Rattle.std.specs.HashMap.{get_by_text}
use Rattle.std.specs.List.{position_from}
use Rattle.ds2_meaning.specs.Location.{is_same_location}
use Rattle.ds2_layout.specs.declared.slot.LayoutSlot.{LayoutSlot}
use Rattle.ds2_layout.specs.Layout.{location_of_slot}
use Rattle.ds2_layout.specs.SlotSearch.{earlier_number, own_variable}
use Rattle.ds2_layout.proofs.LayoutLemmas.{more_numbered, none_numbered, all_numbered}
use Rattle.ds2_layout.proofs.numbers.number_slots.Goals as goal

pub slots-init : goal.slots-init
slots-init c = λ other.
    let is = λ (slot : LayoutSlot). is_same_location (location_of_slot slot) (own_variable other) in
    let none : get_by_text c.new-numbers.result other ≡ None = search in
    ap (λ n. earlier_number n (position_from is 0 c.args.slots.now)) none ∙ none_numbered is c.args.slots.now

pub slots-preserved : goal.slots-preserved
slots-preserved c = λ other.
    more_numbered (λ (slot : LayoutSlot). is_same_location (location_of_slot slot) (own_variable other)) c.args.slots.now c.slots.slot-index c.slots.at c.slot-item.result c.slots-test.true c.slot-item.is _ _ _ (c.in_ok-number_slot.ensures other) (c.slots.invariant other)

pub returns : goal.returns
returns c = λ other.
    all_numbered (λ (slot : LayoutSlot). is_same_location (location_of_slot slot) (own_variable other)) c.args.slots.now c.slots.slot-index c.slots.at c.slots-test.false _ _ (c.slots.invariant other)
