use Rattle.ds2_schedule.proofs.Groups.{all_are_states}
use Rattle.ds2_schedule.proofs.laws.all_are_states.Goals as goal

pub returns : goal.returns
returns c start = all_are_states c.row.State.Denot c.row.Location.Denot c.row.Content.Denot c.row.Target.Denot c.row.Value.Denot c.row.Answer.Denot
