use Rattle.ds2_locality.proofs.FurtherVerdicts.{job_verdicts}
use Rattle.ds2_locality.proofs.laws.job_verdicts.Goals as goal

pub returns : goal.returns
returns c = job_verdicts
