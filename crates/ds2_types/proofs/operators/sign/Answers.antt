use Rattle.std.proofs.Common.{◌∙◌, ap}
use Rattle.ds2_value.specs.declared.ty.Ty.{Ty}
use Rattle.ds2_meaning.specs.IsTyped.{expression_type}
use Rattle.ds2_meaning.specs.TypedExpression.{Prefixed}
use Rattle.ds2_meaning.specs.declared.expressions.Prefix.{Prefix}
use Rattle.ds2_elaboration.specs.OperatorTypes.{sign_prefix}
use Rattle.ds2_elaboration.specs.Typings.{is_numeric_type, operand_clash}
use Rattle.ds2_types.specs.Judgements.{node_tree}
use Rattle.ds2_types.proofs.Forms.{broken_of_one, typed_of_one}
use Rattle.ds2_types.proofs.operators.sign.Goals as goal

pub returns-in-Err : goal.returns-in-Err
returns-in-Err c = λ e h.
    broken_of_one (operand_clash is_numeric_type c.args.operator.now.place) e c.args.x c.operand_clash-clash.result c.ruled.result h
    c.operand_clash-clash.ensures c.ruled.ensures (Prefixed (sign_prefix c.args.operator.now (expression_type e.node)) e.node (expression_type e.node))
    c.in-Err.refusal c.in-Err.is

pub returns-in_ok-node-in-Ok : goal.returns-in_ok-node-in-Ok
returns-in_ok-node-in-Ok c = λ e h.
    let o = c.in-Ok.operand in
    let tree = node_tree o in
    typed_of_one (operand_clash is_numeric_type c.args.operator.now.place) e c.args.x c.operand_clash-clash.result c.ruled.result h
    c.operand_clash-clash.ensures c.ruled.ensures o c.in-Ok.is
    (λ t. Prefixed (sign_prefix c.args.operator.now (expression_type t)) t (expression_type t)) c.in_ok-node-in-Ok.node
    (c.in_ok-node-in-Ok.ensures ∙ ap (λ (p : Prefix). Prefixed p tree o.ty) c.sign_prefix.ensures
    ∙ ap (λ (ty : Ty). Prefixed (sign_prefix c.args.operator.now ty) tree ty) o.own_type)
