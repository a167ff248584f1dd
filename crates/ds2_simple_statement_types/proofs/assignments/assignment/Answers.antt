use Rattle.ds2_tree.specs.ExpressionViews.{expression_tree}
use Rattle.ds2_elaboration.specs.ExpressionTypes.{elaborated}
use Rattle.ds2_elaboration.specs.StatementTypes.{target_of}
use Rattle.ds2_simple_statement_types.proofs.assignments.assignment.Goals as goal

pub returns : goal.returns
returns c = λ types s.
    c.assigned_to.ensures types (target_of types c.args.name.now) (elaborated types (expression_tree c.args.value.now)) (c.in_ok-found.ensures types s.names) (c.in_ok-x.ensures types s.names)
