use Rattle.std.proofs.Common.{List, ◌++◌, ◌∷◌, [], map, ap, ◌∙◌, subst}
use Rattle.ds2_meaning.specs.TypedExpression.{TypedExpression}
use Rattle.ds2_meaning.specs.View.{typed_expression}
use Rattle.ds2_meaning.specs.declared.expressions.Expression.{Expression}
use Rattle.ds2_types.specs.Judgements.{IsOutcome}
use Rattle.ds2_types.proofs.Outcomes.{IsTree}
use Rattle.ds2_expression_types.proofs.choices.one_value.Goals as goal

pub returns-in-Err : goal.returns-in-Err
returns-in-Err c = λ refusals node h. subst (IsOutcome (IsTree node) refusals) c.in-Err.is h

pub returns-in_ok-values-in-Ok : goal.returns-in_ok-values-in-Ok
returns-in_ok-values-in-Ok c = λ refusals node h.
    let so = subst (IsOutcome (IsTree node) refusals) c.in-Ok.is h in (
      so.0,
      ap (λ (l : List Expression). map typed_expression l) c.in_ok-values-in-Ok.ensures
          ∙ ap (λ (l : List Expression). map typed_expression (l ++ c.in-Ok.node.tree.value ∷ [])) c.new.ensures
          ∙ ap (λ (t : TypedExpression). t ∷ []) so.1,
    )
