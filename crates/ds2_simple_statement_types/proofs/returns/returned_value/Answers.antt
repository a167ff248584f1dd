use Rattle.std.proofs.Common.{Some, None, sym, ap, ◌∙◌, subst, Option}
use Rattle.ds2_value.specs.declared.ty.Ty.{Ty}
use Rattle.ds2_meaning.specs.TypedStatement.{ReturnValue}
use Rattle.ds2_elaboration.specs.Typings.{assigned_refusals, assigned_node}
use Rattle.ds2_expression_types.specs.Arguments.{value_in}
use Rattle.ds2_simple_statement_types.specs.StatementOutcomes.{StandsAs}
use Rattle.ds2_simple_statement_types.specs.ReturnedAndWritten.{returned_refusals}
use Rattle.ds2_simple_statement_types.proofs.returns.returned_value.Goals as goal

pub returns-in-None : goal.returns-in-None
returns-in-None c = λ e h.
    subst (λ (o : Option Ty). StandsAs (returned_refusals c.args.place o e) (ReturnValue c.args.place (value_in o e)) c.returned.result) (sym c.in-None.is)
    (c.returned.ensures e.refusals e.node h.outcome)

pub returns-in_ok-outcome-in-Some : goal.returns-in_ok-outcome-in-Some
returns-in_ok-outcome-in-Some c = λ e h.
    let ty = c.in-Some.ty in
    subst (λ (o : Option Ty). StandsAs (returned_refusals c.args.place o e) (ReturnValue c.args.place (value_in o e)) c.returned-in-Some.result) (sym c.in-Some.is)
    (c.returned-in-Some.ensures (assigned_refusals ty c.args.place e) (assigned_node ty e) (c.in_ok-outcome-in-Some.ensures e h))
