use Rattle.std.proofs.Common.{◌≡◌, drop}
use Rattle.ds2_names.specs.UnitRules.{places_of}
use Rattle.ds2_scope.specs.Earliest.{earlier_of, earliest}
use Rattle.ds2_resolve.proofs.before.earliest_place.Given as goal

abbrev pub invariant-tables : goal.invariant-tables
invariant-tables l = earlier_of l.found (earliest (places_of (drop l.table-index l.tables))) ≡ earliest (places_of l.tables)
