use Rattle.ds2_locality.proofs.LocalityExamples.{outside_verdicts}
use Rattle.ds2_locality.proofs.laws.outside_verdicts.Goals as goal

pub returns : goal.returns
returns c = outside_verdicts
