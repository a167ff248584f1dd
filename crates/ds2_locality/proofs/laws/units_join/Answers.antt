use Rattle.ds2_locality.proofs.Joining.{units_join}
use Rattle.ds2_locality.proofs.laws.units_join.Goals as goal

pub returns : goal.returns
returns c = units_join
