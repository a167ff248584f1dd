use Rattle.std.proofs.Common.{◌≡◌, drop}
use Rattle.ds2_names.specs.UnitRules.{declared_types}
use Rattle.ds2_given_names.specs.TypeNumbers.{bad_in_types}
use Rattle.ds2_scope.specs.Earliest.{earlier_of, earliest}
use Rattle.ds2_given_names.proofs.numbers.in_declarations.Given as goal

abbrev pub invariant-declarations : goal.invariant-declarations
invariant-declarations l = earlier_of l.found (earliest (bad_in_types (declared_types (drop l.v-index l.declarations)))) ≡ earliest (bad_in_types (declared_types l.declarations))
