use Rattle.std.proofs.Common.{◌≡◌, length}
use Rattle.ds2_code.specs.OperandTypes.{with_in_out_types}
use Rattle.ds2_valid_code.proofs.results.push_in_outs.Given as goal

abbrev pub invariant-parameters : goal.invariant-parameters
invariant-parameters l = with_in_out_types l.rest l.types ≡ with_in_out_types l.parameters l.initial.types

abbrev pub decreases-parameters : goal.decreases-parameters
decreases-parameters l = length l.rest
