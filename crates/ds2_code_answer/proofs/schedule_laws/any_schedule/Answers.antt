use Rattle.ds2_code_answer.proofs.StageAnswers.{any_schedule}
use Rattle.ds2_code_answer.proofs.schedule_laws.any_schedule.Goals as goal

pub returns : goal.returns
returns g c = any_schedule g.row.State.Denot g.row.Location.Denot g.row.Content.Denot g.row.Target.Denot g.row.Value.Denot c.groups_divide_loads.ensures
