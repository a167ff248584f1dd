use Rattle.std.proofs.Common.{◌≡◌, ◌++◌, drop}
use Rattle.ds2_generate.specs.OutputParts.{output_parts_by}
use Rattle.ds2_generate.proofs.readings.output_parts.Given as goal

abbrev pub invariant-outputs : goal.invariant-outputs
invariant-outputs l = l.parts ++ output_parts_by (drop l.output-index l.outputs) l.rest ≡ output_parts_by l.outputs l.projections
