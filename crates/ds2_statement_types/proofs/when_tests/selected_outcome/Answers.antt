use Rattle.std.proofs.Common.{ap, ◌∙◌, subst}
use Rattle.ds2_meaning.specs.TypedExpression.{TypedExpression}
use Rattle.ds2_elaboration.specs.StatementTypes.{selected_node}
use Rattle.ds2_simple_statement_types.specs.StatementOutcomes.{IsNodeAs}
use Rattle.ds2_statement_types.proofs.when_tests.selected_outcome.Goals as goal

pub returns-in-Err : goal.returns-in-Err
returns-in-Err c = λ types refusals node h. subst (IsNodeAs refusals node) c.in-Err.is h

pub returns-in_ok-node-in-Ok : goal.returns-in_ok-node-in-Ok
returns-in_ok-node-in-Ok c = λ types refusals node h.
    let so = subst (IsNodeAs refusals node) c.in-Ok.is h in
    (so.0, c.in_ok-node-in-Ok.ensures types ∙ ap (λ (n : TypedExpression). selected_node types c.args.decimals n) so.1)
