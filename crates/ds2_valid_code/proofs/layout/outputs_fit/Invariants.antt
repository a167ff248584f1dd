use Rattle.std.proofs.Common.{◌≡◌, length}
use Rattle.std.specs.List.{list_all}
use Rattle.ds2_code.specs.ValidCode.{output_fits}
use Rattle.ds2_valid_code.proofs.layout.outputs_fit.Given as goal

abbrev pub invariant-outputs : goal.invariant-outputs
invariant-outputs l = list_all output_fits l.rest ≡ list_all output_fits l.outputs

abbrev pub decreases-outputs : goal.decreases-outputs
decreases-outputs l = length l.rest
