use Rattle.ds2_schedule.proofs.Histories.{histories_replay}
use Rattle.ds2_schedule.proofs.laws.histories_replay.Goals as goal

pub returns : goal.returns
returns c = histories_replay
