use Rattle.ds2_elaboration.proofs.Expressions.{expressions_are_typed}
use Rattle.ds2_elaboration.proofs.laws.expressions_are_typed.Goals as goal

pub returns : goal.returns
returns c = expressions_are_typed
