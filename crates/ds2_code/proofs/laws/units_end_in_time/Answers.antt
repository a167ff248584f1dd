use Rattle.ds2_code.proofs.RunsEnd.{units_end_in_time}
use Rattle.ds2_code.proofs.laws.units_end_in_time.Goals as goal

pub returns : goal.returns
returns c = units_end_in_time
