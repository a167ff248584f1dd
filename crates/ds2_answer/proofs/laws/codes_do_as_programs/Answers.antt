use Rattle.ds2_answer.proofs.StoredPlans.{codes_do}
use Rattle.ds2_answer.proofs.laws.codes_do_as_programs.Goals as goal

pub returns : goal.returns
returns c = codes_do
