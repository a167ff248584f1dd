use Rattle.std.proofs.Common.{◌≡◌, drop}
use Rattle.ds2_names.specs.NameRules.{from_each}
use Rattle.ds2_scope.specs.Earliest.{earlier_of, earliest}
use Rattle.ds2_scope.specs.NamedPlaces.{place_if_before}
use Rattle.ds2_scope.proofs.repeated.earliest_behind.Given as goal

abbrev pub invariant-names : goal.invariant-names
invariant-names l = earlier_of l.found (earliest (from_each (place_if_before l.all) (drop l.n-index l.all))) ≡ earliest (from_each (place_if_before l.all) l.all)
