use Rattle.std.proofs.Common.{refl}
use Rattle.ds2_expression_types.proofs.constants.null_value.Goals as goal

pub returns : goal.returns
returns c = record { typing = refl; outcome = (refl, c.in_ok-node.ensures) }
