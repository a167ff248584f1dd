use Rattle.std.proofs.Common.{map}
use Rattle.std.specs.HashMap.{get}
use Rattle.ds2_layout.specs.Layout.{location_of_slot}
use Rattle.ds2_meaning.specs.Location.{Location, is_same_location}
use Rattle.ds2_numbering.specs.Searching.{search_among, unbegun}
use Rattle.ds2_numbering.specs.SoughtKeys.{is_one_sought}
use Rattle.ds2_numbering.specs.SoughtLocations.{location_sought}
use Rattle.ds2_numbering.proofs.NumberLemmas.{all_searched, all_slots_numbered, reached}
use Rattle.ds2_numbering.proofs.slot_table.number_slots.Goals as goal

pub returns : goal.returns
returns c =
    let slots = c.args.slots.now in
    all_slots_numbered slots c.slots.numbers c.slots.seen
    (λ q. all_searched (λ (other : Location). is_same_location (location_sought q) other) location_of_slot slots c.slots.slot-index
    (reached (get is_one_sought c.slots.numbers q) c.slots.seen) (search_among (location_sought q) (map location_of_slot slots) unbegun) c.slots-test.false (c.slots.invariant q))
