-- Locations with their numbers, each found by the order of locations.
use Rattle.std.specs.Prelude.{◌≡◌, ℕ, List}
use Rattle.std.specs.BTreeMap.{BTreeMap, get}
use Rattle.ds2_program_code.specs.PlacedProgram.{number_of_location}
use Rattle.ds2_deeds.specs.declared.location.LocationName.{LocationName}
use Rattle.ds2_deeds.specs.LocationOrder.{named_cmp}
use Rattle.ds2_deeds.specs.NamedLocations.{location_named, locations_named}

-- each location has the number of its first place
abbrev pub HaveFirstNumbers : List LocationName → BTreeMap LocationName ℕ → Type 0
HaveFirstNumbers locations numbers = (at : LocationName) → get named_cmp numbers at ≡ number_of_location (locations_named locations) (location_named at)
