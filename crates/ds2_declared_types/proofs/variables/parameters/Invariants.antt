use Rattle.std.proofs.Common.{◌≡◌, ◌++◌, drop}
use Rattle.std.specs.Prelude.{map}
use Rattle.ds2_elaboration.specs.SourceTypes.{elaborated_parameter}
use Rattle.ds2_declared_types.proofs.variables.parameters.Given as goal

abbrev pub invariant-parameters : goal.invariant-parameters
invariant-parameters l = l.made ++ map elaborated_parameter (drop l.p-index l.parameters) ≡ map elaborated_parameter l.parameters
