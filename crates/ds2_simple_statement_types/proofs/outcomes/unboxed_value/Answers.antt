use Rattle.std.proofs.Common.{subst, ap, ◌∙◌}
use Rattle.ds2_meaning.specs.View.{typed_expression}
use Rattle.ds2_simple_statement_types.specs.StatementOutcomes.{IsNodeAs}
use Rattle.ds2_simple_statement_types.proofs.outcomes.unboxed_value.Goals as goal

pub returns-in-Ok : goal.returns-in-Ok
returns-in-Ok c = λ refusals node h.
    let so = subst (IsNodeAs refusals node) c.in-Ok.is h in (so.0, ap typed_expression c.into_inner.ensures ∙ so.1)

pub returns-in-Err : goal.returns-in-Err
returns-in-Err c = λ refusals node h. subst (IsNodeAs refusals node) c.in-Err.is h
