use Rattle.std.proofs.Common.{◌≡◌, ◌++◌, drop}
use Rattle.std.specs.Prelude.{map}
use Rattle.ds2_scope.specs.Collected.{parameter_name}
use Rattle.ds2_scope.proofs.collected.parameter_names.Given as goal

abbrev pub invariant-parameters : goal.invariant-parameters
invariant-parameters l = l.names ++ map parameter_name (drop l.p-index l.parameters) ≡ map parameter_name l.parameters
