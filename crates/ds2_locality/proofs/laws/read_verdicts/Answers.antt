use Rattle.ds2_locality.proofs.LocalityExamples.{read_verdicts}
use Rattle.ds2_locality.proofs.laws.read_verdicts.Goals as goal

pub returns : goal.returns
returns c = read_verdicts
