use Rattle.ds2_schedule.proofs.Schedule.{one_thread_agrees}
use Rattle.ds2_schedule.proofs.laws.one_thread_agrees.Goals as goal

pub returns : goal.returns
returns c start = one_thread_agrees c.row.State.Denot c.row.Location.Denot c.row.Content.Denot c.row.Answer.Denot
