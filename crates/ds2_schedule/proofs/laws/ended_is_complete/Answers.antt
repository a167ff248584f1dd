use Rattle.ds2_schedule.proofs.Bags.{ended_is_complete}
use Rattle.ds2_schedule.proofs.laws.ended_is_complete.Goals as goal

pub returns : goal.returns
returns c = ended_is_complete
