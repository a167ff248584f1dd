use Rattle.ds2_code_answer.proofs.StageAnswers.{any_schedule_of_code}
use Rattle.ds2_code_answer.proofs.schedule_laws.any_schedule_of_code.Goals as goal

pub returns : goal.returns
returns g c = any_schedule_of_code g.row.Location.Denot g.row.Content.Denot c.groups_divide_loads.ensures
