use Rattle.std.proofs.Common.{◌++◌, ◌∙◌, ap}
use Rattle.ds2_meaning.specs.TypedExpression.{TypedExpression}
use Rattle.ds2_elaboration.specs.FunctionTypes.{remainder_node}
use Rattle.ds2_elaboration.specs.Typings.{is_numeric_type, operand_clash}
use Rattle.ds2_types.specs.Judgements.{node_tree}
use Rattle.ds2_types.proofs.Outcomes.{operands_broken, operands_typed}
use Rattle.ds2_types.proofs.Forms.{after_two}
use Rattle.ds2_types.proofs.functions.remainder.Goals as goal

pub returns-in-Err : goal.returns-in-Err
returns-in-Err c = λ x y h k.
    let rule = operand_clash is_numeric_type c.args.name in
    operands_broken ((x.value.refusals ++ rule x.value.typing) ++ (y.value.refusals ++ rule y.value.typing)) (remainder_node x.value.node y.value.node) c.in-Err.refusal
    (after_two rule x.value y.value c.args.a c.args.b c.operand_clash.result c.operand_clash-2.result c.ruled-left.result c.ruled-right.result c.both.result h k
    c.operand_clash.ensures c.ruled-left.ensures c.operand_clash-2.ensures c.ruled-right.ensures c.both.ensures _ c.in-Err.is)

pub returns-in_ok-node-in-Ok : goal.returns-in_ok-node-in-Ok
returns-in_ok-node-in-Ok c = λ x y h k.
    let rule = operand_clash is_numeric_type c.args.name in
    let p = c.in-Ok.pair in
    let so = after_two rule x.value y.value c.args.a c.args.b c.operand_clash.result c.operand_clash-2.result c.ruled-left.result c.ruled-right.result c.both.result h k
    c.operand_clash.ensures c.ruled-left.ensures c.operand_clash-2.ensures c.ruled-right.ensures c.both.ensures _ c.in-Ok.is in
    operands_typed ((x.value.refusals ++ rule x.value.typing) ++ (y.value.refusals ++ rule y.value.typing)) (remainder_node x.value.node y.value.node)
    c.in_ok-node-in-Ok.node so.0
    (c.in_ok-node-in-Ok.ensures ∙ ap (λ (t : TypedExpression). remainder_node t (node_tree p.right)) so.1.0
    ∙ ap (λ (t : TypedExpression). remainder_node x.value.node t) so.1.1)
