use Rattle.std.proofs.Common.{[], refl}
use Rattle.ds2_elaboration.specs.ExpressionTypes.{flag_node}
use Rattle.ds2_types.proofs.Outcomes.{operands_typed}
use Rattle.ds2_reference_types.proofs.variables.flag_value.Goals as goal

pub returns : goal.returns
returns c = operands_typed [] (flag_node c.args.flag) c.in_ok-node.node refl c.in_ok-node.ensures
