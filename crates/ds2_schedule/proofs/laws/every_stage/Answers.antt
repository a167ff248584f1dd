use Rattle.ds2_schedule.proofs.Groups.{every_stage}
use Rattle.ds2_schedule.proofs.laws.every_stage.Goals as goal

pub returns : goal.returns
returns c start = every_stage c.row.State.Denot c.row.Location.Denot c.row.Content.Denot c.row.Target.Denot c.row.Value.Denot c.row.Answer.Denot
