use Rattle.std.proofs.Common.{sym, ap, ◌∙◌, subst}
use Rattle.ds2_meaning.specs.TypedExpression.{TypedExpression}
use Rattle.ds2_statement_types.specs.Controls.{IsTested}
use Rattle.ds2_simple_statement_types.specs.StatementOutcomes.{IsNodeAs}
use Rattle.ds2_statement_types.proofs.counts.tested.Goals as goal

pub returns-in-Err : goal.returns-in-Err
returns-in-Err c = λ refusals node h. subst (IsNodeAs refusals node) c.in-Err.is h

pub returns-in-Ok : goal.returns-in-Ok
returns-in-Ok c = λ refusals node h.
    let so = subst (IsNodeAs refusals node) c.in-Ok.is h in
    (so.0, subst (λ (n : TypedExpression). IsTested c.args.keyword.now n c.tested_control.result) so.1 c.tested_control.ensures)
