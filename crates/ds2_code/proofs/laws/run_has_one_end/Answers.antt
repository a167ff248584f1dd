use Rattle.ds2_code.proofs.RunsEnd.{run_has_one_end}
use Rattle.ds2_code.proofs.laws.run_has_one_end.Goals as goal

pub returns : goal.returns
returns c = run_has_one_end
