use Rattle.std.proofs.Common.{◌≡◌, ◌++◌, map, drop}
use Rattle.ds2_gen.specs.MethodCode.{parameter_part}
use Rattle.ds2_generate.proofs.bodies.parameter_parts.Given as goal

abbrev pub invariant-parameters : goal.invariant-parameters
invariant-parameters l = l.parts ++ map parameter_part (drop l.parameter-index l.parameters) ≡ map parameter_part l.parameters
