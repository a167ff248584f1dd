use Rattle.ds2_code.proofs.Lockstep.{runs_count_alike}
use Rattle.ds2_code.proofs.laws.runs_count_alike.Goals as goal

pub returns : goal.returns
returns c = runs_count_alike
