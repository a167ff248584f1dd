use Rattle.std.proofs.Common.{◌≡◌, ◌++◌, drop}
use Rattle.ds2_valid_code.specs.SignatureCodes.{parameter_code, list_code}
use Rattle.ds2_valid_code.proofs.owner.push_parameters.Given as goal

abbrev pub invariant-parameters : goal.invariant-parameters
invariant-parameters l = l.code ++ list_code parameter_code (drop l.parameter-index l.parameters) ≡ l.initial.code ++ list_code parameter_code l.parameters
