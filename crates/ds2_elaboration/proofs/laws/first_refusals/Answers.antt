use Rattle.ds2_elaboration.proofs.Given.{first_refusals}
use Rattle.ds2_elaboration.proofs.laws.first_refusals.Goals as goal

pub returns : goal.returns
returns c = first_refusals
