use Rattle.ds2_decimal.proofs.LawLemmas.{floor_greatest}
use Rattle.ds2_decimal.proofs.laws.floor_is_greatest.Goals as goal

pub returns : goal.returns
returns c = floor_greatest
