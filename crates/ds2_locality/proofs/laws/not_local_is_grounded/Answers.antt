use Rattle.ds2_locality.proofs.Grains.{not_local_is_grounded}
use Rattle.ds2_locality.proofs.laws.not_local_is_grounded.Goals as goal

pub returns : goal.returns
returns c = not_local_is_grounded
