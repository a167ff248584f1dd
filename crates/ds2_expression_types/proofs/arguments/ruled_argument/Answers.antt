use Rattle.std.proofs.Common.{Option, sym, subst, refl}
use Rattle.ds2_elaboration.specs.Typings.{operand_clash}
use Rattle.ds2_expression_types.specs.Arguments.{IsRuled}
use Rattle.ds2_types.specs.Judgements.{passes}
use Rattle.ds2_types.specs.declared.rules.ArgumentRule.{ArgumentRule}
use Rattle.ds2_types.proofs.Outcomes.{after_one}
use Rattle.ds2_expression_types.proofs.arguments.ruled_argument.Goals as goal

pub returns-in-None : goal.returns-in-None
returns-in-None c = λ e h. subst (λ (r : Option ArgumentRule). IsRuled r e c.args.x) (sym c.in-None.is) (record { typing = h.typing; outcome = h.outcome })

pub returns-in-Some : goal.returns-in-Some
returns-in-Some c = λ e h.
    let r = c.in-Some.rule in
    subst (λ (rule : Option ArgumentRule). IsRuled rule e (record { typing = c.args.x.typing; outcome = c.ruled-outcome.result })) (sym c.in-Some.is)
    (record {
      typing = h.typing;
      outcome =
          after_one (operand_clash (passes r.test) r.name) e.value c.args.x c.operand_clash.result c.ruled-outcome.result h c.operand_clash.ensures c.ruled-outcome.ensures _ refl;
    })
