use Rattle.ds2_schedule.proofs.Numbers.{still_ascends}
use Rattle.ds2_schedule.proofs.laws.still_ascends.Goals as goal

pub returns : goal.returns
returns c = still_ascends
