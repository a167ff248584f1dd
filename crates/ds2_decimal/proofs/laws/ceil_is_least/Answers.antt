use Rattle.ds2_decimal.proofs.LawLemmas.{ceil_least}
use Rattle.ds2_decimal.proofs.laws.ceil_is_least.Goals as goal

pub returns : goal.returns
returns c = ceil_least
