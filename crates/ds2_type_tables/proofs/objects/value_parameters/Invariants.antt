use Rattle.std.proofs.Common.{◌≡◌, ◌++◌, drop}
use Rattle.std.specs.Prelude.{map}
use Rattle.ds2_reference_types.specs.Scopes.{value_parameter}
use Rattle.ds2_type_tables.proofs.objects.value_parameters.Given as goal

abbrev pub invariant-variables : goal.invariant-variables
invariant-variables l = l.parameters ++ map value_parameter (drop l.v-index l.variables) ≡ map value_parameter l.variables
