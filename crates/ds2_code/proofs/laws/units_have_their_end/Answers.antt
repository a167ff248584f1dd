use Rattle.ds2_code.proofs.Inside.{units_have_their_end}
use Rattle.ds2_code.proofs.laws.units_have_their_end.Goals as goal

pub returns : goal.returns
returns c = units_have_their_end
