use Rattle.std.proofs.Common.{◌≡◌, ◌++◌, drop}
use Rattle.std.specs.Prelude.{map}
use Rattle.ds2_declared_types.specs.Joins.{variable_of_parameter}
use Rattle.ds2_declared_types.proofs.variables.parameter_variables.Given as goal

abbrev pub invariant-parameters : goal.invariant-parameters
invariant-parameters l = l.variables ++ map variable_of_parameter (drop l.p-index l.parameters) ≡ map variable_of_parameter l.parameters
