use Rattle.std.proofs.Common.{◌≡◌, map, drop}
use Rattle.ds2_meaning.specs.Location.{is_same_location}
use Rattle.ds2_deeds.specs.NamedLocations.{location_named}
use Rattle.ds2_deeds.proofs.NumberLemmas.{number_from}
use Rattle.ds2_deeds.proofs.location.number_by_walk.Given as goal

abbrev pub invariant-locations : goal.invariant-locations
invariant-locations l =
    (l.number ≡ l.other-index)
    × (number_from (is_same_location (location_named l.at)) l.other-index (map location_named (drop l.other-index l.locations)) ≡ number_from (is_same_location (location_named l.at)) 0 (map location_named l.locations))
