use Rattle.std.proofs.Common.{◌≡◌, ◌++◌, drop}
use Rattle.ds2_names.specs.UnitRules.{places_of}
use Rattle.ds2_given_names.proofs.too_many.push_places.Given as goal

abbrev pub invariant-names : goal.invariant-names
invariant-names l = l.places ++ places_of (drop l.n-index l.names) ≡ l.fn.places ++ places_of l.names
