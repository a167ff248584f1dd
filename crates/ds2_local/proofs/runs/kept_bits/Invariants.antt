use Rattle.std.proofs.Common.{◌≡◌, ◌++◌, map, drop}
use Rattle.ds2_locality.specs.KeptLocations.{is_kept}
use Rattle.ds2_deeds.specs.declared.location.LocationName.{LocationName}
use Rattle.ds2_deeds.specs.CodeTrees.{nameless_tree}
use Rattle.ds2_deeds.specs.NamedLocations.{location_named}
use Rattle.ds2_local.proofs.runs.kept_bits.Given as goal

abbrev pub invariant-locations : goal.invariant-locations
invariant-locations l =
    l.bits ++ map (λ (x : LocationName). is_kept (nameless_tree l.program) (location_named x)) (drop l.at-index l.locations)
    ≡ map (λ (x : LocationName). is_kept (nameless_tree l.program) (location_named x)) l.locations
