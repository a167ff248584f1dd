use Rattle.std.proofs.Common.{◌≡◌, map, drop}
use Rattle.ds2_layout.specs.Layout.{location_of_slot}
use Rattle.ds2_deeds.specs.NamedLocations.{locations_named, with_locations}
use Rattle.ds2_deeds.proofs.table.add_slots.Given as goal

abbrev pub invariant-slots : goal.invariant-slots
invariant-slots l =
    with_locations (locations_named l.locations) (map location_of_slot (drop l.slot-index l.slots)) ≡ with_locations (locations_named l.fn.locations) (map location_of_slot l.slots)
