use Rattle.ds2_decimal.proofs.LawLemmas.{rescale_back}
use Rattle.ds2_decimal.proofs.laws.rescale_returns.Goals as goal

pub returns : goal.returns
returns c = rescale_back
