use Rattle.std.proofs.Common.{◌≡◌, drop}
use Rattle.std.specs.Prelude.{map}
use Rattle.ds2_tree.specs.UnitViews.{global_tree}
use Rattle.ds2_names.specs.NameRules.{from_each}
use Rattle.ds2_names.specs.SourceUnit.{source_methods}
use Rattle.ds2_given_names.specs.TypeNumbers.{bad_in_reading}
use Rattle.ds2_scope.specs.Earliest.{earlier_of, earliest}
use Rattle.ds2_given_names.proofs.numbers.in_all_readings.Given as goal

abbrev pub invariant-globals : goal.invariant-globals
invariant-globals l = earlier_of l.found (earliest (from_each bad_in_reading (source_methods (map global_tree (drop l.global-index l.globals))))) ≡ earliest (from_each bad_in_reading (source_methods (map global_tree l.globals)))
