use Rattle.ds2_elaboration.proofs.Statements.{statements_are_typed}
use Rattle.ds2_elaboration.proofs.laws.statements_are_typed.Goals as goal

pub returns : goal.returns
returns c = statements_are_typed
