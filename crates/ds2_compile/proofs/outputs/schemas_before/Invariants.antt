use Rattle.std.proofs.Common.{◌≡◌, ◌++◌, length, map}
use Rattle.ds2_compile.specs.TablesBehind.{HaveOutputSchemas, schema_of_output}
use Rattle.ds2_compile.proofs.outputs.schemas_before.Given as goal

abbrev pub invariant-outputs : goal.invariant-outputs
invariant-outputs l = HaveOutputSchemas l.rest × (l.all ++ map schema_of_output l.rest ≡ map schema_of_output l.outputs)

abbrev pub decreases-outputs : goal.decreases-outputs
decreases-outputs l = length l.rest
