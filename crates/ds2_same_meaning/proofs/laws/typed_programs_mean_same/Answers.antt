use Rattle.ds2_same_meaning.proofs.SamePrograms.{programs_mean_same}
use Rattle.ds2_same_meaning.proofs.laws.typed_programs_mean_same.Goals as goal

pub returns : goal.returns
returns c = programs_mean_same c.typed_programs_answer_alike.ensures c.typed_units_count_by_way.ensures
