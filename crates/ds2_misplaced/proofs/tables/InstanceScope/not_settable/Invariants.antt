use Rattle.std.proofs.Common.{◌≡◌, drop}
use Rattle.ds2_names.specs.NameRules.{from_each}
use Rattle.ds2_scope.specs.CodeUnits.{names_bracketed}
use Rattle.ds2_scope.specs.Earliest.{earlier_of, earliest}
use Rattle.ds2_misplaced.specs.InstanceTables.{tests_in_tables}
use Rattle.ds2_misplaced.specs.InstanceTests.{place_unless_named}
use Rattle.ds2_misplaced.proofs.tables.InstanceScope.not_settable.Given as goal

abbrev pub invariant-names : goal.invariant-names
invariant-names l =
    earlier_of l.found (earliest (from_each (place_unless_named (tests_in_tables l.self).is_settable) (names_bracketed (drop l.n-index l.names))))
    ≡ earliest (from_each (place_unless_named (tests_in_tables l.self).is_settable) (names_bracketed l.names))
