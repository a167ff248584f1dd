use Rattle.ds2_names.specs.Uses.{first_place}
use Rattle.ds2_tree.specs.ExpressionViews.{expression_tree}
use Rattle.ds2_elaboration.specs.ExpressionTypes.{elaborated}
use Rattle.ds2_elaboration.specs.Typings.{truth_refusals}
use Rattle.ds2_statement_types.proofs.counts.test.Goals as goal

pub returns : goal.returns
returns c = λ types s.
    let e = expression_tree c.args.c.now.condition in
    c.tested.ensures (truth_refusals (first_place e) (elaborated types e)) (elaborated types e).node (c.in_ok-outcome.ensures types s)
