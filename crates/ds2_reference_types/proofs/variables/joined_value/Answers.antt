use Rattle.ds2_reference_types.proofs.KnownNames.{variable_value}
use Rattle.ds2_reference_types.proofs.variables.joined_value.Goals as goal

pub returns : goal.returns
returns c = λ v h e. variable_value c.args.known.now v c.in_ok-reference.reference c.in_ok-node.node h e c.in_ok-reference.ensures c.in_ok-node.ensures
