use Rattle.std.proofs.Common.{◌≡◌, map, drop}
use Rattle.std.specs.HashMap.{get}
use Rattle.ds2_layout.specs.Layout.{location_of_slot}
use Rattle.ds2_numbering.specs.declared.sought.Sought.{Sought}
use Rattle.ds2_numbering.specs.Searching.{search_among, unbegun}
use Rattle.ds2_numbering.specs.SoughtKeys.{is_one_sought}
use Rattle.ds2_numbering.specs.SoughtLocations.{location_sought}
use Rattle.ds2_numbering.proofs.NumberLemmas.{reached}
use Rattle.ds2_numbering.proofs.slot_table.number_slots.Given as goal

abbrev pub invariant-slots : goal.invariant-slots
invariant-slots l = (s : Sought) →
    search_among (location_sought s) (map location_of_slot (drop l.slot-index l.slots)) (reached (get is_one_sought l.numbers s) l.seen)
    ≡ search_among (location_sought s) (map location_of_slot l.slots) unbegun
