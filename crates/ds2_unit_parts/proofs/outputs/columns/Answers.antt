use Rattle.std.proofs.Common.{◌+◌, drop, arith}
use Rattle.std.proofs.lemmas.Grind.{common_steps}
use Rattle.ds2_names.specs.SourceUnit.{names_alone}
use Rattle.ds2_unit_parts.proofs.OutputColumns.{column_more}
use Rattle.ds2_unit_parts.proofs.outputs.columns.Goals as goal

pub variables-preserved : goal.variables-preserved
variables-preserved c = λ all o h k.
    let more = column_more c.args.parts all o c.n-item.result.name (names_alone (drop (c.variables.n-index + 1) c.args.variables.now)) in
    let pushed = c.in_ok-push_column.ensures all o h k in
    let before = c.variables.invariant all o h k in
    grind (arith, common_steps, more, pushed, before)

pub returns : goal.returns
returns c = λ all o h k.
    let before = c.variables.invariant all o h k in
    grind (arith, common_steps, before)
