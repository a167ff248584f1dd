use Rattle.ds2_same_meaning.proofs.AnswersAlike.{loads_alike}
use Rattle.ds2_same_meaning.proofs.answer_laws.typed_loads_are_alike.Goals as goal

pub returns : goal.returns
returns c = loads_alike c.typed_programs_open_alike.ensures
