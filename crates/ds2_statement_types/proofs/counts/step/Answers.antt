use Rattle.std.proofs.Common.{◌≡◌, Option, Ok, None, refl, sym, ap, subst}
use Rattle.std.specs.Option.{option_map}
use Rattle.ds2_names.specs.Uses.{first_place}
use Rattle.ds2_tree.specs.ExpressionViews.{expression_tree}
use Rattle.ds2_tree.specs.StatementViews.{step_tree}
use Rattle.ds2_tree.specs.Statements.{Step}
use Rattle.ds2_elaboration.specs.ExpressionTypes.{elaborated}
use Rattle.ds2_elaboration.specs.StatementTypes.{bound_refusals, step_refusals, step_node}
use Rattle.ds2_types.specs.Judgements.{IsOutcome}
use Rattle.ds2_types.specs.declared.judgement.Node.{Node}
use Rattle.ds2_simple_statement_types.specs.StatementOutcomes.{tree_if_any}
use Rattle.ds2_statement_types.proofs.counts.step.Goals as goal

pub returns-in-None : goal.returns-in-None
returns-in-None c = λ types s.
    subst (λ (o : Option Step). IsOutcome (λ (n : Option Node). tree_if_any n ≡ step_node types o) (step_refusals types o) (Ok None)) (sym (ap (option_map step_tree) c.in-None.is)) (refl, refl)

pub returns-in_ok-by-in-Some : goal.returns-in_ok-by-in-Some
returns-in_ok-by-in-Some c = λ types s.
    let e = expression_tree c.in-Some.step.value in
    subst (λ (o : Option Step). IsOutcome (λ (n : Option Node). tree_if_any n ≡ step_node types o) (step_refusals types o) c.step_if_any.result) (sym (ap (option_map step_tree) c.in-Some.is))
    (c.step_if_any.ensures (bound_refusals (first_place e) (elaborated types e)) (elaborated types e).node (c.in_ok-by-in-Some.ensures types s))
