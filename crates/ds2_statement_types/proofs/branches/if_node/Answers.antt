use Rattle.std.proofs.Common.{ap, ◌∙◌}
use Rattle.ds2_meaning.specs.View.{typed_statement}
use Rattle.ds2_meaning.specs.declared.expressions.Expression.{Expression}
use Rattle.ds2_meaning.specs.declared.statements.Statement.TheVariants as statement
use Rattle.ds2_statement_types.proofs.PartViews.{if_typed}
use Rattle.ds2_statement_types.proofs.branches.if_node.Goals as goal

pub returns : goal.returns
returns c =
    ap (λ (e : Expression). typed_statement (statement.If c.args.place e c.args.head.second c.args.tail.first c.args.tail.second)) c.into_inner.ensures
    ∙ if_typed c.args.place c.args.head.first.tree.value c.args.head.second c.args.tail.first c.args.tail.second
