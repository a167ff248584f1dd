use Rattle.ds2_locality.proofs.LocalityExamples.{call_verdicts}
use Rattle.ds2_locality.proofs.laws.call_verdicts.Goals as goal

pub returns : goal.returns
returns c = call_verdicts
