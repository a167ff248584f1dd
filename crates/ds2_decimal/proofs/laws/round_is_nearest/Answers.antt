use Rattle.ds2_decimal.proofs.LawLemmas.{round_nearest}
use Rattle.ds2_decimal.proofs.laws.round_is_nearest.Goals as goal

pub returns : goal.returns
returns c = round_nearest
