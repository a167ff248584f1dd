use Rattle.ds2_same_meaning.proofs.AnswersAlike.{programs_answer_alike}
use Rattle.ds2_same_meaning.proofs.answer_laws.typed_programs_answer_alike.Goals as goal

pub returns : goal.returns
returns c = programs_answer_alike c.typed_programs_open_alike.ensures c.typed_units_run_as_meant.ensures c.stage_rows_set_slots.ensures
