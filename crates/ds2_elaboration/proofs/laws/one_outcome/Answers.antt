use Rattle.ds2_elaboration.proofs.Outcome.{one_outcome}
use Rattle.ds2_elaboration.proofs.laws.one_outcome.Goals as goal

pub returns : goal.returns
returns c = one_outcome
