use Rattle.ds2_gen.proofs.UnitRuns.{code_keeps_meaning}
use Rattle.ds2_gen.proofs.laws.code_keeps_meaning.Goals as goal

pub returns : goal.returns
returns c = code_keeps_meaning c.units_have_their_end.ensures
