use Rattle.std.proofs.Common.{◌≡◌, ◌++◌, map, drop}
use Rattle.ds2_deeds.specs.declared.location.LocationName.{LocationName}
use Rattle.ds2_deeds.specs.NamedLocations.{location_named}
use Rattle.ds2_local.specs.RunGrounds.{is_flag_at}
use Rattle.ds2_local.proofs.runs.flags_of.Given as goal

abbrev pub invariant-locations : goal.invariant-locations
invariant-locations l =
    l.bits ++ map (λ (x : LocationName). is_flag_at l.bys (location_named x)) (drop l.at-index l.locations) ≡ map (λ (x : LocationName). is_flag_at l.bys (location_named x)) l.locations
