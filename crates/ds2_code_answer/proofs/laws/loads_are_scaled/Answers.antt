use Rattle.ds2_code_answer.proofs.ScaledLoads.{loads_scaled}
use Rattle.ds2_code_answer.proofs.laws.loads_are_scaled.Goals as goal

pub returns : goal.returns
returns c = loads_scaled
