use Rattle.ds2_verdicts.proofs.Judged.{threads_judged}
use Rattle.ds2_verdicts.proofs.laws.typed_threads_are_judged.Goals as goal

pub returns : goal.returns
returns c = threads_judged
