use Rattle.ds2_schedule.proofs.Numbers.{draws_the_next}
use Rattle.ds2_schedule.proofs.laws.draws_the_next.Goals as goal

pub returns : goal.returns
returns c = draws_the_next
