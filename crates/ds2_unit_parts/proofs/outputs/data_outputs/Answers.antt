use Rattle.std.proofs.Common.{◌+◌, drop, map, arith}
use Rattle.std.proofs.lemmas.Grind.{common_steps}
use Rattle.ds2_names.specs.SourceUnit.{names_alone}
use Rattle.ds2_scope.specs.CodeUnits.{unit_source}
use Rattle.ds2_unit_parts.specs.TypedOutputs.{outputs_made_of}
use Rattle.ds2_unit_parts.proofs.MadeForms.{made_more}
use Rattle.ds2_unit_parts.proofs.outputs.data_outputs.Goals as goal

pub outputs-preserved : goal.outputs-preserved
outputs-preserved c =
    let u = unit_source c.args.unit in
    let left = drop (c.outputs.o-index + 1) c.args.unit.outputs.now in
    let more = made_more (outputs_made_of c.args.vector.now u (names_alone c.args.variables.now)) c.o-item.result left in
    let pushed = c.in_ok-push_output.ensures c.args.vector.now u c.in_ok-types.ensures c.in_ok-statements.ensures in
    grind (arith, common_steps, more, pushed, c.outputs.invariant)
