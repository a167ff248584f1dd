use Rattle.ds2_code.proofs.RunsEnd.{units_begin_with_little}
use Rattle.ds2_code.proofs.laws.units_begin_with_little.Goals as goal

pub returns : goal.returns
returns c = units_begin_with_little
