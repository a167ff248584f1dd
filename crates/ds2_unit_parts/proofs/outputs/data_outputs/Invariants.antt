use Rattle.std.proofs.Common.{◌≡◌, ◌++◌, drop}
use Rattle.std.specs.Prelude.{map}
use Rattle.ds2_names.specs.SourceUnit.{names_alone}
use Rattle.ds2_scope.specs.CodeUnits.{unit_source}
use Rattle.ds2_unit_parts.specs.TypedOutputs.{made_among, outputs_made_of}
use Rattle.ds2_unit_parts.proofs.outputs.data_outputs.Given as goal

abbrev pub invariant-outputs : goal.invariant-outputs
invariant-outputs l =
    l.all ++ map (outputs_made_of l.vector (unit_source l.unit) (names_alone l.variables)) (made_among (drop l.o-index l.unit.outputs.now))
    ≡ map (outputs_made_of l.vector (unit_source l.unit) (names_alone l.variables)) (made_among l.unit.outputs.now)
