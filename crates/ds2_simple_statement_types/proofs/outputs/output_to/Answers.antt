use Rattle.std.proofs.Common.{ℕ, List, sym, ap, ◌∙◌, subst}
use Rattle.ds2_meaning.specs.TypedStatement.{Output}
use Rattle.ds2_simple_statement_types.specs.StatementOutcomes.{AreTypedAs}
use Rattle.ds2_simple_statement_types.specs.ReturnedAndWritten.{as_it_is}
use Rattle.ds2_simple_statement_types.proofs.OutputForms.{same_list}
use Rattle.ds2_simple_statement_types.proofs.outputs.output_to.Goals as goal

pub returns-in-Err : goal.returns-in-Err
returns-in-Err c = λ refusals numbers h. subst (AreTypedAs as_it_is refusals numbers) c.in-Err.is h

pub returns-in_ok-made-in-Ok : goal.returns-in_ok-made-in-Ok
returns-in_ok-made-in-Ok c = λ refusals numbers h.
    let so = subst (AreTypedAs as_it_is refusals numbers) c.in-Ok.is h in
    (so.0, c.in_ok-made-in-Ok.ensures ∙ c.output_node.ensures ∙ ap (λ (l : List ℕ). Output c.args.place l) (sym (same_list c.in-Ok.outputs) ∙ so.1))
