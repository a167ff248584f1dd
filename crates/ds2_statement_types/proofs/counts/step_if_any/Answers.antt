use Rattle.std.proofs.Common.{Some, ap, subst}
use Rattle.ds2_meaning.specs.TypedExpression.{TypedExpression}
use Rattle.ds2_simple_statement_types.specs.StatementOutcomes.{IsNodeAs}
use Rattle.ds2_statement_types.proofs.counts.step_if_any.Goals as goal

pub returns-in-Ok : goal.returns-in-Ok
returns-in-Ok c = λ refusals node h. let so = subst (IsNodeAs refusals node) c.in-Ok.is h in (so.0, ap (λ (n : TypedExpression). Some n) so.1)

pub returns-in-Err : goal.returns-in-Err
returns-in-Err c = λ refusals node h. subst (IsNodeAs refusals node) c.in-Err.is h
