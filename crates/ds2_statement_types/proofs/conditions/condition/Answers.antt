use Rattle.std.proofs.Common.{subst}
use Rattle.ds2_base.specs.declared.place.Place.{Place}
use Rattle.ds2_tree.specs.ExpressionViews.{expression_tree}
use Rattle.ds2_elaboration.specs.ExpressionTypes.{elaborated}
use Rattle.ds2_elaboration.specs.Typings.{truth_refusals}
use Rattle.ds2_simple_statement_types.specs.StatementOutcomes.{IsNodeAs}
use Rattle.ds2_statement_types.proofs.conditions.condition.Goals as goal

pub returns : goal.returns
returns c = λ types s.
    let e = elaborated types (expression_tree c.args.e.now) in
    subst (λ (p : Place). IsNodeAs (truth_refusals p e) e.node c.true_or_false.result) c.first_place.ensures (c.true_or_false.ensures e (c.in_ok-x.ensures types s))
