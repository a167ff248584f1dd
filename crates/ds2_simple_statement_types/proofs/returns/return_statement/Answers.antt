use Rattle.std.proofs.Common.{sym, ap, ◌∙◌, subst, Option}
use Rattle.std.specs.Option.{option_map}
use Rattle.ds2_tree.specs.ExpressionViews.{expression_tree}
use Rattle.ds2_elaboration.specs.ExpressionTypes.{elaborated}
use Rattle.ds2_meaning.specs.TypedStatement.{Return}
use Rattle.ds2_simple_statement_types.proofs.SimpleViews.{return_typed}
use Rattle.ds2_simple_statement_types.proofs.ReturnForms.{returned_nothing, returned_something}
use Rattle.ds2_simple_statement_types.proofs.returns.return_statement.Goals as goal

pub returns-in-None : goal.returns-in-None
returns-in-None c = λ types s. returned_nothing types c.args.place (option_map expression_tree c.args.value.now) c.standing.result (ap (option_map expression_tree) c.in-None.is) (c.standing.ensures (Return c.args.place) (return_typed c.args.place))

pub returns-in_ok-x-in-Some : goal.returns-in_ok-x-in-Some
returns-in_ok-x-in-Some c = λ types s.
    returned_something types c.args.place c.args.scope.now.returns (option_map expression_tree c.args.value.now) (expression_tree c.in-Some.e) c.returned_value.result s.returns
    (ap (option_map expression_tree) c.in-Some.is) (c.returned_value.ensures (elaborated types (expression_tree c.in-Some.e)) (c.in_ok-x-in-Some.ensures types s.names))
