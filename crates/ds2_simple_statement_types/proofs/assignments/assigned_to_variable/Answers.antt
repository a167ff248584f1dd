use Rattle.std.proofs.Common.{ap, ◌∙◌, subst}
use Rattle.ds2_meaning.specs.TypedExpression.{TypedExpression}
use Rattle.ds2_meaning.specs.TypedStatement.{Assign}
use Rattle.ds2_types.specs.Judgements.{IsAssigned}
use Rattle.ds2_simple_statement_types.proofs.assignments.assigned_to_variable.Goals as goal

pub returns-in-Err : goal.returns-in-Err
returns-in-Err c = λ e h. subst (IsAssigned c.args.ty c.args.place e) c.in-Err.is (c.in_ok-outcome.ensures e h)

pub returns-in_ok-made-in-Ok : goal.returns-in_ok-made-in-Ok
returns-in_ok-made-in-Ok c = λ e h.
    let so = subst (IsAssigned c.args.ty c.args.place e) c.in-Ok.is (c.in_ok-outcome.ensures e h) in
    (so.0, c.in_ok-made-in-Ok.ensures ∙ c.assign_node.ensures ∙ ap (λ (n : TypedExpression). Assign c.args.place c.args.variable n) so.1)
