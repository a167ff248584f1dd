use Rattle.std.proofs.Common.{Bool, Result, sym, ap, ◌∙◌, subst}
use Rattle.ds2_base.specs.declared.place.Refusal.{Refusal}
use Rattle.ds2_value.specs.declared.ty.Ty.{Ty}
use Rattle.ds2_meaning.specs.declared.refusals.TypeKind.{TypeKind}
use Rattle.ds2_elaboration.specs.ExpressionTypes.{link_refusals}
use Rattle.ds2_elaboration.specs.Typings.{operand_clash}
use Rattle.ds2_types.specs.Judgements.{first_type_refusal, typing_of, IsOutcome, ruled}
use Rattle.ds2_types.specs.declared.judgement.Node.{Node}
use Rattle.ds2_expression_types.proofs.Growing.{after_link}
use Rattle.ds2_types.proofs.Outcomes.{IsTree}
use Rattle.ds2_expression_types.proofs.growth.ruled_operand.Goals as goal

pub returns : goal.returns
returns c = λ e h.
    let x = c.args.x in
    let place = c.args.operator.now.place in
    let left = typing_of c.args.left in
    subst (IsOutcome (IsTree e.node) (link_refusals c.args.kind c.args.operator.now left e))
    (sym
    (c.ruled-3.ensures
    ∙ ap (λ (o : Result Node (Refusal TypeKind)). ruled o c.pair_clash-pair.result)
    (c.ruled-2.ensures ∙ ap (λ (o : Result Node (Refusal TypeKind)). ruled o c.operand_clash-after.result) c.ruled.ensures)))
    (after_link c.args.kind c.args.operator.now left e x c.operand_clash-before.result c.operand_clash-after.result c.pair_clash-pair.result h
    (c.operand_clash-before.ensures ∙ ap (λ (test : Ty → Bool). first_type_refusal (operand_clash test place left)) c.operand_test-test.ensures)
    (c.operand_clash-after.ensures ∙ ap (λ (test : Ty → Bool). first_type_refusal (operand_clash test place (typing_of x.typing))) c.operand_test-test.ensures)
    c.pair_clash-pair.ensures)
