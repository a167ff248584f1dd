use Rattle.std.proofs.Common.{List, map, ap, ◌∙◌, subst}
use Rattle.ds2_value.specs.declared.ty.Ty.TheVariants.{BigInt}
use Rattle.ds2_meaning.specs.TypedExpression.{TypedExpression, Chain}
use Rattle.ds2_elaboration.specs.OperatorTypes.{ElaboratedLink}
use Rattle.ds2_expression_types.specs.ChainLinks.{links_in_order}
use Rattle.ds2_expression_types.specs.Growth.{IsGrownChain}
use Rattle.ds2_types.specs.Judgements.{link_of, IsOutcome}
use Rattle.ds2_types.proofs.Outcomes.{type_broken, type_typed}
use Rattle.ds2_expression_types.proofs.growth.finished_truth.Goals as goal

pub returns-in-Err : goal.returns-in-Err
returns-in-Err c = λ first links refusals h.
    type_broken BigInt refusals (Chain first (links_in_order links)) c.in-Err.refusal (subst (IsOutcome (IsGrownChain first links BigInt) refusals) c.in-Err.is h)

pub returns-in_ok-node-in-Ok : goal.returns-in_ok-node-in-Ok
returns-in_ok-node-in-Ok c = λ first links refusals h.
    let so = subst (IsOutcome (IsGrownChain first links BigInt) refusals) c.in-Ok.is h in
    let g = c.in-Ok.grown in
    type_typed BigInt refusals (Chain first (links_in_order links)) c.in_ok-node-in-Ok.node so.0
    (c.in_ok-node-in-Ok.ensures ∙ ap (λ (t : TypedExpression). Chain t (links_in_order (map link_of g.links))) so.1.begins
    ∙ ap (λ (l : List ElaboratedLink). Chain first (links_in_order l)) so.1.goes_on)
