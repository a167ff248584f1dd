use Rattle.std.proofs.Common.{Bool, not, List, [], map, refl, sym, ap, ◌∙◌, subst}
use Rattle.ds2_meaning.specs.View.{typed_expression}
use Rattle.ds2_meaning.specs.declared.expressions.Expression.{Expression}
use Rattle.ds2_elaboration.specs.Typings.{clash_unless}
use Rattle.ds2_expression_types.specs.Arguments.{AreJudged, AreValues}
use Rattle.ds2_types.specs.Judgements.{first_type_refusal, ruled}
use Rattle.ds2_expression_types.proofs.SeveralValues.{Values, is_coalesce}
use Rattle.ds2_expression_types.proofs.choices.coalesce.Goals as goal

pub returns : goal.returns
returns c = λ xs h.
    let name = c.args.name in
    is_coalesce name xs c.as_slice-items.result.now c.common_type-ty.result c.in_ok-all.all c.of_values.result c.clash_unless-nulls.result c.clash_unless-mixed.result
    (subst (AreJudged xs) (sym c.as_slice-items.ensures) h)
    (c.clash_unless-nulls.ensures ∙ ap (λ (b : Bool). first_type_refusal (clash_unless (not b) name)) c.are_nulls.ensures)
    (c.clash_unless-mixed.ensures ∙ ap (λ (b : Bool). first_type_refusal (clash_unless b name)) c.are_of_one_kind.ensures)
    c.common_type-ty.ensures (c.in_ok-all.ensures [] [] xs (refl, ap (λ (l : List Expression). map typed_expression l) c.new.ensures) h)
    (λ refusals nodes so.
    c.of_values.ensures refusals nodes c.common_type-ty.result
    (subst (AreValues refusals nodes) (sym (c.ruled_values-all.ensures ∙ ap (λ (v : Values). ruled v c.clash_unless-mixed.result) c.ruled_values.ensures)) so) (λ e. refl))
