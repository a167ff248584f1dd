use Rattle.std.proofs.Common.{◌≡◌, take}
use Rattle.ds2_instance_types.proofs.variables.variables_copy.Given as goal

abbrev pub invariant-variables : goal.invariant-variables
invariant-variables l = l.copy ≡ take l.variable-index l.variables
