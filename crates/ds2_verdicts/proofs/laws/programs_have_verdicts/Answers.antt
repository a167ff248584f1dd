use Rattle.ds2_verdicts.proofs.OwnVerdicts.{programs_have_verdicts}
use Rattle.ds2_verdicts.proofs.laws.programs_have_verdicts.Goals as goal

pub returns : goal.returns
returns c = programs_have_verdicts c.all_objects_are_told.ensures
