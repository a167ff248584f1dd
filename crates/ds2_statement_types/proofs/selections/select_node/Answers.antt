use Rattle.std.proofs.Common.{Option, None, Some, sym, ap, ◌∙◌, map}
use Rattle.std.specs.Option.{option_map}
use Rattle.ds2_meaning.specs.View.{in_a_row, otherwise_part, typed_statement}
use Rattle.ds2_meaning.specs.declared.expressions.Expression.{Expression}
use Rattle.ds2_meaning.specs.declared.statements.Statement.TheVariants as statement
use Rattle.ds2_types.specs.declared.judgement.Node.{Node}
use Rattle.ds2_simple_statement_types.specs.StatementOutcomes.{boxed_tree, tree_if_any}
use Rattle.ds2_statement_types.specs.StatementParts.{when_of}
use Rattle.ds2_statement_types.specs.TestRules.{select_form}
use Rattle.ds2_statement_types.proofs.PartViews.{select_typed, select_value_typed}
use Rattle.ds2_statement_types.proofs.selections.select_node.Goals as goal

pub returns-in-None : goal.returns-in-None
returns-in-None c =
    let p = c.args.parts in
    select_typed c.args.place p.first p.second
    ∙ ap (λ (o : Option Node). select_form c.args.place (tree_if_any o) (in_a_row (map when_of p.first) (otherwise_part (option_map boxed_tree p.second)))) (sym c.in-None.is)

pub returns-in-Some : goal.returns-in-Some
returns-in-Some c =
    let p = c.args.parts in
    ap (λ (e : Expression). typed_statement (statement.SelectValue c.args.place e p.first p.second)) c.into_inner.ensures
    ∙ select_value_typed c.args.place c.in-Some.value.tree.value p.first p.second
    ∙ ap (λ (o : Option Node). select_form c.args.place (tree_if_any o) (in_a_row (map when_of p.first) (otherwise_part (option_map boxed_tree p.second)))) (sym c.in-Some.is)
