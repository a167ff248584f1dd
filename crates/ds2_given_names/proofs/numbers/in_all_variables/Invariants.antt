use Rattle.std.proofs.Common.{◌≡◌, drop}
use Rattle.std.specs.Prelude.{map}
use Rattle.ds2_tree.specs.UnitViews.{global_tree}
use Rattle.ds2_names.specs.SourceUnit.{variable_declarations}
use Rattle.ds2_names.specs.UnitRules.{declared_types}
use Rattle.ds2_given_names.specs.TypeNumbers.{bad_in_types}
use Rattle.ds2_scope.specs.Earliest.{earlier_of, earliest}
use Rattle.ds2_given_names.proofs.numbers.in_all_variables.Given as goal

abbrev pub invariant-globals : goal.invariant-globals
invariant-globals l = earlier_of l.found (earliest (bad_in_types (declared_types (variable_declarations (map global_tree (drop l.global-index l.globals)))))) ≡ earliest (bad_in_types (declared_types (variable_declarations (map global_tree l.globals))))
