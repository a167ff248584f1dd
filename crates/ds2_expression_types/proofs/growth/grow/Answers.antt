use Rattle.std.proofs.Common.{◌++◌, sym, ◌∙◌, subst}
use Rattle.ds2_elaboration.specs.ExpressionTypes.{link_refusals}
use Rattle.ds2_elaboration.specs.Typings.{Typing}
use Rattle.ds2_types.specs.Judgements.{IsOutcome}
use Rattle.ds2_expression_types.proofs.Growing.{IsStep, after_grown, grown_broken, grown_longer}
use Rattle.ds2_types.proofs.Outcomes.{IsTree}
use Rattle.ds2_expression_types.proofs.growth.grow.Goals as goal

pub returns-in-Err : goal.returns-in-Err
returns-in-Err c = λ first links ty refusals left e g h.
    let kind = c.args.kind in
    let operator = c.args.operator.now in
    let own = subst (λ (t : Typing). IsOutcome (IsTree e.node) (link_refusals kind operator t e) c.ruled_operand-operand.result) g.typing (c.ruled_operand-operand.ensures e h) in
    grown_broken kind operator first links ty refusals e left c.in-Err.refusal
    (subst (IsOutcome (IsStep first links ty e.node) (refusals ++ link_refusals kind operator left e)) (sym c.grown_and.ensures ∙ c.in-Err.is)
    (after_grown first links ty e.node refusals (link_refusals kind operator left e) c.args.before.outcome c.ruled_operand-operand.result g.outcome own))

pub returns-in_ok-grown-in-Ok : goal.returns-in_ok-grown-in-Ok
returns-in_ok-grown-in-Ok c = λ first links ty refusals left e g h.
    let kind = c.args.kind in
    let operator = c.args.operator.now in
    let own = subst (λ (t : Typing). IsOutcome (IsTree e.node) (link_refusals kind operator t e) c.ruled_operand-operand.result) g.typing (c.ruled_operand-operand.ensures e h) in
    grown_longer kind operator first links ty refusals e left c.in-Ok.step c.in_ok-grown-in-Ok.grown
    (subst (IsOutcome (IsStep first links ty e.node) (refusals ++ link_refusals kind operator left e)) (sym c.grown_and.ensures ∙ c.in-Ok.is)
    (after_grown first links ty e.node refusals (link_refusals kind operator left e) c.args.before.outcome c.ruled_operand-operand.result g.outcome own))
    c.in_ok-grown-in-Ok.ensures
