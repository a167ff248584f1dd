use Rattle.std.proofs.Common.{List, [], map, refl, sym, ap, subst}
use Rattle.ds2_meaning.specs.View.{typed_expression}
use Rattle.ds2_meaning.specs.declared.expressions.Expression.{Expression}
use Rattle.ds2_expression_types.specs.Arguments.{AreJudged}
use Rattle.ds2_expression_types.proofs.SeveralValues.{is_extreme}
use Rattle.ds2_expression_types.proofs.choices.extreme.Goals as goal

pub returns : goal.returns
returns c = λ xs h.
    is_extreme c.args.name xs c.as_slice.result.now c.common_type-ty.result c.in_ok-all.all c.of_values.result c.args.function
    (subst (AreJudged xs) (sym c.as_slice.ensures) h) c.common_type-ty.ensures
    (c.in_ok-all.ensures [] [] xs (refl, ap (λ (l : List Expression). map typed_expression l) c.new.ensures) h)
    (λ refusals nodes so. c.of_values.ensures refusals nodes c.common_type-ty.result so (λ e. refl))
