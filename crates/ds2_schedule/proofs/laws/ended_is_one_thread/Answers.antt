use Rattle.ds2_schedule.proofs.Carried.{ended_is_one_thread}
use Rattle.ds2_schedule.proofs.laws.ended_is_one_thread.Goals as goal

pub returns : goal.returns
returns c start = ended_is_one_thread c.row.State.Denot c.row.Location.Denot c.row.Content.Denot c.row.Answer.Denot
