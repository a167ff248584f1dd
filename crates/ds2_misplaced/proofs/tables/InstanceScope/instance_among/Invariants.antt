use Rattle.std.proofs.Common.{◌≡◌, drop}
use Rattle.ds2_names.specs.NameRules.{from_each}
use Rattle.ds2_scope.specs.CodeUnits.{names_bracketed}
use Rattle.ds2_scope.specs.Earliest.{earlier_of, earliest}
use Rattle.ds2_misplaced.specs.InstanceTables.{tests_in_tables}
use Rattle.ds2_misplaced.specs.InstanceTests.{place_if_test}
use Rattle.ds2_misplaced.proofs.tables.InstanceScope.instance_among.Given as goal

abbrev pub invariant-names : goal.invariant-names
invariant-names l =
    earlier_of l.found (earliest (from_each (place_if_test (tests_in_tables l.self).is_instance) (names_bracketed (drop l.n-index l.names))))
    ≡ earliest (from_each (place_if_test (tests_in_tables l.self).is_instance) (names_bracketed l.names))
