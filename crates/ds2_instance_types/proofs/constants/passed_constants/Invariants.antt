use Rattle.std.proofs.Common.{drop}
use Rattle.ds2_elaboration.specs.ExpressionTypes.{arguments_for}
use Rattle.ds2_elaboration.specs.ProgramTypes.{constructor_arguments}
use Rattle.ds2_reference_types.proofs.ArgumentWalk.{HasPassed}
use Rattle.ds2_instance_types.proofs.constants.passed_constants.Given as goal

abbrev pub invariant-constants : goal.invariant-constants
invariant-constants l =
    HasPassed l.name (arguments_for l.name l.parameters (constructor_arguments l.constants)) l.left (constructor_arguments (drop l.c-index l.constants)) l.so_far
