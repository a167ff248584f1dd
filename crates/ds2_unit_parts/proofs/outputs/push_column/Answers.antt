use Rattle.ds2_unit_parts.proofs.OutputColumns.{passed_column, no_column}
use Rattle.ds2_unit_parts.proofs.outputs.push_column.Goals as goal

pub returns-in_ok-push : goal.returns-in_ok-push
returns-in_ok-push c = λ variables o h k.
    passed_column c.args.parts variables o c.args.source.now c.passes.result c.args.columns.now _ c.in_ok-own.own c.passes.ensures c.if-passes.true (c.in_ok-own.ensures variables o h k) c.in_ok-push.ensures.ok

pub returns-else-passes : goal.returns-else-passes
returns-else-passes c = λ variables o h k. no_column c.args.parts variables o c.args.source.now c.passes.result c.args.columns.now c.passes.ensures c.if-passes.false
