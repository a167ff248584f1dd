use Rattle.ds2_gen.proofs.StatementRuns.{statements_are_carried_out}
use Rattle.ds2_gen.proofs.laws.statements_are_carried_out.Goals as goal

pub returns : goal.returns
returns c = statements_are_carried_out
