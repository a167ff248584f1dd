use Rattle.ds2_gen.proofs.JumpLemmas.{bodies_stay_in_list}
use Rattle.ds2_gen.proofs.laws.bodies_stay_in_list.Goals as goal

pub returns : goal.returns
returns c = bodies_stay_in_list
