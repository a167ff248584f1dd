use Rattle.ds2_code.proofs.Paid.{units_are_paid}
use Rattle.ds2_code.proofs.laws.units_are_paid.Goals as goal

pub returns : goal.returns
returns c = units_are_paid
