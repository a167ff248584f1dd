use Rattle.ds2_schedule.proofs.Schedule.{every_schedule_is}
use Rattle.ds2_schedule.proofs.laws.every_schedule.Goals as goal

pub returns : goal.returns
returns c start = every_schedule_is c.row.State.Denot c.row.Location.Denot c.row.Content.Denot c.row.Answer.Denot
