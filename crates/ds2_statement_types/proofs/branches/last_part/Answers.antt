use Rattle.std.proofs.Common.{Some, ap, subst, Option}
use Rattle.ds2_meaning.specs.TypedStatement.{TypedStatement}
use Rattle.ds2_simple_statement_types.specs.StatementOutcomes.{IsStatementAs}
use Rattle.ds2_statement_types.proofs.branches.last_part.Goals as goal

pub returns-in-Ok : goal.returns-in-Ok
returns-in-Ok c = λ refusals node h. let so = subst (IsStatementAs refusals node) c.in-Ok.is h in (so.0, ap (λ (n : TypedStatement). Some n) so.1)

pub returns-in-Err : goal.returns-in-Err
returns-in-Err c = λ refusals node h. subst (IsStatementAs refusals node) c.in-Err.is h
