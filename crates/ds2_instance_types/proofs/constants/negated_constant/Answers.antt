use Rattle.std.proofs.Common.{[], refl, sym, ap, ◌∙◌}
use Rattle.ds2_types.proofs.Outcomes.{operands_typed}
use Rattle.ds2_instance_types.specs.ConstantArguments.{negated_node}
use Rattle.ds2_instance_types.proofs.ConstantForms.{none_broken, operand_is}
use Rattle.ds2_instance_types.proofs.constants.negated_constant.Goals as goal

pub returns-in-Err : goal.returns-in-Err
returns-in-Err c = λ node h. none_broken node c.args.x h c.in-Err.refusal _ (sym c.outcome_of.ensures ∙ c.in-Err.is)

pub returns-in_ok-node-in-Ok : goal.returns-in_ok-node-in-Ok
returns-in_ok-node-in-Ok c = λ node h.
    operands_typed [] (negated_node node) c.in_ok-node-in-Ok.node refl
    (c.in_ok-node-in-Ok.ensures ∙ ap negated_node (operand_is node c.args.x h c.in-Ok.operand (sym c.outcome_of.ensures ∙ c.in-Ok.is)))
