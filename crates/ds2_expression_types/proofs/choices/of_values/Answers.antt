use Rattle.std.proofs.Common.{List, subst, ap, ◌∙◌}
use Rattle.ds2_value.specs.declared.ty.Ty.{Ty}
use Rattle.ds2_meaning.specs.TypedExpression.{TypedExpression, Applied}
use Rattle.ds2_elaboration.specs.FunctionTypes.{nodes_in_order}
use Rattle.ds2_expression_types.specs.Arguments.{AreValues}
use Rattle.ds2_types.proofs.Outcomes.{operands_broken, operands_typed}
use Rattle.ds2_expression_types.proofs.choices.of_values.Goals as goal

pub returns-in-Err : goal.returns-in-Err
returns-in-Err c = λ refusals nodes wanted h k.
    operands_broken refusals (Applied c.args.function (nodes_in_order nodes) wanted) c.in-Err.refusal (subst (AreValues refusals nodes) c.in-Err.is h)

pub returns-in_ok-node-in-Ok : goal.returns-in_ok-node-in-Ok
returns-in_ok-node-in-Ok c = λ refusals nodes wanted h k.
    let so = subst (AreValues refusals nodes) c.in-Ok.is h in
    operands_typed refusals (Applied c.args.function (nodes_in_order nodes) wanted) c.in_ok-node-in-Ok.node so.0
    (c.in_ok-node-in-Ok.ensures ∙ ap (λ (l : List TypedExpression). Applied c.args.function (nodes_in_order l) c.args.ty) so.1
    ∙ ap (λ (t : Ty). Applied c.args.function (nodes_in_order nodes) t) (k so.0))
