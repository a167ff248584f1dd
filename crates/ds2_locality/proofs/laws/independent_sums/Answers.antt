use Rattle.ds2_locality.proofs.IndependentSums.{independent_sums}
use Rattle.ds2_locality.proofs.laws.independent_sums.Goals as goal

pub returns : goal.returns
returns c = independent_sums
