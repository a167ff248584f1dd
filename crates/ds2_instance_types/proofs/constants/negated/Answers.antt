use Rattle.std.proofs.Common.{ap, ◌∙◌}
use Rattle.ds2_value.specs.declared.ty.Ty.{Ty}
use Rattle.ds2_meaning.specs.TypedExpression.{Prefixed}
use Rattle.ds2_meaning.specs.declared.expressions.Prefix.{Prefix}
use Rattle.ds2_elaboration.specs.OperatorTypes.{minus_prefix}
use Rattle.ds2_types.specs.Judgements.{node_tree}
use Rattle.ds2_instance_types.proofs.constants.negated.Goals as goal

pub returns : goal.returns
returns c =
    let o = c.args.operand in
    let tree = node_tree o in
    c.in_ok-node.ensures ∙ ap (λ (p : Prefix). Prefixed p tree o.ty) c.minus_prefix.ensures ∙ ap (λ (ty : Ty). Prefixed (minus_prefix ty) tree ty) o.own_type
