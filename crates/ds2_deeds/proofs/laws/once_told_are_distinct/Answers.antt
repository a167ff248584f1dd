use Rattle.ds2_deeds.proofs.DistinctLemmas.{once_told}
use Rattle.ds2_deeds.proofs.laws.once_told_are_distinct.Goals as goal

pub returns : goal.returns
returns c = once_told
