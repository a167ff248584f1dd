use Rattle.std.proofs.Common.{sym, ap, ◌∙◌}
use Rattle.ds2_meaning.specs.View.{typed_statement, typed_statements}
use Rattle.ds2_meaning.specs.declared.expressions.Expression.{Expression}
use Rattle.ds2_meaning.specs.declared.statements.Statement.TheVariants as statement
use Rattle.ds2_statement_types.specs.Controls.{loop_form}
use Rattle.ds2_statement_types.specs.declared.counts.TypedControl.{TypedControl}
use Rattle.ds2_statement_types.proofs.PartViews.{block_typed, while_typed, until_typed}
use Rattle.ds2_statement_types.proofs.loops.loop_node.Goals as goal

pub returns-in-Block : goal.returns-in-Block
returns-in-Block c = block_typed c.args.place c.args.body ∙ ap (λ (k : TypedControl). loop_form c.args.place k (typed_statements c.args.body)) (sym c.in-Block.is)

pub returns-in-Count : goal.returns-in-Count
returns-in-Count c = c.count_node.ensures ∙ ap (λ (k : TypedControl). loop_form c.args.place k (typed_statements c.args.body)) (sym c.in-Count.is)

pub returns-in-While : goal.returns-in-While
returns-in-While c =
    ap (λ (e : Expression). typed_statement (statement.While c.args.place e c.args.body)) c.into_inner.ensures
    ∙ while_typed c.args.place c.in-While.condition.tree.value c.args.body ∙ ap (λ (k : TypedControl). loop_form c.args.place k (typed_statements c.args.body)) (sym c.in-While.is)

pub returns-in-Until : goal.returns-in-Until
returns-in-Until c =
    ap (λ (e : Expression). typed_statement (statement.Until c.args.place e c.args.body)) c.into_inner-in-Until.ensures
    ∙ until_typed c.args.place c.in-Until.condition.tree.value c.args.body ∙ ap (λ (k : TypedControl). loop_form c.args.place k (typed_statements c.args.body)) (sym c.in-Until.is)
