use Rattle.ds2_exec.proofs.VerdictGrains.{verdict_grains_fit}
use Rattle.ds2_exec.proofs.laws.verdict_grains_fit.Goals as goal

pub returns : goal.returns
returns c = verdict_grains_fit c.local_is_greatest.ensures
