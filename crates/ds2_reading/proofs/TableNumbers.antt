-- Tables behind what shares them.
use Rattle.std.proofs.lemmas.List.{length-map, map-append}
use Rattle.std.proofs.lemmas.Option.{slice_get-map}

pub ruleset shared = (slice_get-map, map-append, length-map)
