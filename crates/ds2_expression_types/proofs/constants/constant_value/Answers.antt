use Rattle.std.proofs.Common.{[], refl}
use Rattle.ds2_elaboration.specs.ExpressionTypes.{constant_node}
use Rattle.ds2_types.proofs.Outcomes.{operands_typed}
use Rattle.ds2_expression_types.proofs.constants.constant_value.Goals as goal

pub returns : goal.returns
returns c = operands_typed [] (constant_node c.args.token.now) c.in_ok-node.node refl c.in_ok-node.ensures
