use Rattle.ds2_code.proofs.Lockstep.{units_count_alike}
use Rattle.ds2_code.proofs.laws.units_count_alike.Goals as goal

pub returns : goal.returns
returns c = units_count_alike
