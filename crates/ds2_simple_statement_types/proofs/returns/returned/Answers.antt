use Rattle.std.proofs.Common.{ap, ◌∙◌, subst}
use Rattle.ds2_meaning.specs.TypedExpression.{TypedExpression}
use Rattle.ds2_meaning.specs.TypedStatement.{ReturnValue}
use Rattle.ds2_simple_statement_types.specs.StatementOutcomes.{IsNodeAs}
use Rattle.ds2_simple_statement_types.proofs.returns.returned.Goals as goal

pub returns-in-Err : goal.returns-in-Err
returns-in-Err c = λ refusals node h. subst (IsNodeAs refusals node) c.in-Err.is h

pub returns-in_ok-made-in-Ok : goal.returns-in_ok-made-in-Ok
returns-in_ok-made-in-Ok c = λ refusals node h.
    let so = subst (IsNodeAs refusals node) c.in-Ok.is h in
    (so.0, c.in_ok-made-in-Ok.ensures ∙ c.return_node.ensures ∙ ap (λ (n : TypedExpression). ReturnValue c.args.place n) so.1)
