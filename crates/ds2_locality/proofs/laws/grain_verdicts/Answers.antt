use Rattle.ds2_locality.proofs.LocalityExamples.{grain_verdicts}
use Rattle.ds2_locality.proofs.laws.grain_verdicts.Goals as goal

pub returns : goal.returns
returns c = grain_verdicts
