use Rattle.ds2_locality.proofs.FurtherVerdicts.{further_verdicts}
use Rattle.ds2_locality.proofs.laws.further_verdicts.Goals as goal

pub returns : goal.returns
returns c = further_verdicts
