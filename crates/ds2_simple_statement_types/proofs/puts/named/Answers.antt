use Rattle.std.proofs.Common.{ap, ◌∙◌, subst}
use Rattle.ds2_meaning.specs.TypedExpression.{TypedExpression}
use Rattle.ds2_meaning.specs.TypedStatement.{Labelled}
use Rattle.ds2_simple_statement_types.specs.StatementOutcomes.{IsNodeAs}
use Rattle.ds2_simple_statement_types.proofs.puts.named.Goals as goal

pub returns-in-Err : goal.returns-in-Err
returns-in-Err c = λ refusals node h. subst (IsNodeAs refusals node) c.in-Err.is h

pub returns-in-Ok : goal.returns-in-Ok
returns-in-Ok c = λ refusals node h.
    let so = subst (IsNodeAs refusals node) c.in-Ok.is h in
    (so.0, c.named_item.ensures ∙ ap (λ (n : TypedExpression). Labelled c.args.name n) so.1)
