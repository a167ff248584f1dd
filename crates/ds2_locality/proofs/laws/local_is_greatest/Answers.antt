use Rattle.ds2_locality.proofs.Grains.{local_is_greatest}
use Rattle.ds2_locality.proofs.laws.local_is_greatest.Goals as goal

pub returns : goal.returns
returns c = local_is_greatest
