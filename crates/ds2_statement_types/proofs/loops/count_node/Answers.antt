use Rattle.std.proofs.Common.{Option, ap, ◌∙◌}
use Rattle.ds2_meaning.specs.TypedExpression.{TypedExpression}
use Rattle.ds2_meaning.specs.TypedStatement.{Count}
use Rattle.ds2_meaning.specs.View.{typed_statement, typed_statements}
use Rattle.ds2_meaning.specs.declared.expressions.Expression.{Expression}
use Rattle.ds2_meaning.specs.declared.statements.Statement.TheVariants as statement
use Rattle.ds2_types.specs.Judgements.{node_tree}
use Rattle.ds2_statement_types.proofs.PartViews.{count_typed}
use Rattle.ds2_statement_types.proofs.loops.count_node.Goals as goal

pub returns : goal.returns
returns c =
    let k = c.args.count in
    ap (λ (e : Expression). typed_statement (statement.Count c.args.place k.variable e c.into_inner-2.result c.step_tree.result c.args.body)) c.into_inner.ensures
    ∙ ap (λ (e : Expression). typed_statement (statement.Count c.args.place k.variable k.start.tree.value e c.step_tree.result c.args.body)) c.into_inner-2.ensures
    ∙ count_typed c.args.place k.variable k.start.tree.value k.stop.tree.value c.step_tree.result c.args.body
    ∙ ap (λ (o : Option TypedExpression). Count c.args.place k.variable (node_tree k.start) (node_tree k.stop) o (typed_statements c.args.body)) c.step_tree.ensures
