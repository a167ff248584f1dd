use Rattle.ds2_code_answer.proofs.Endings.{units_give_endings}
use Rattle.ds2_code_answer.proofs.laws.units_give_endings.Goals as goal

pub returns : goal.returns
returns c start = units_give_endings c.row.L.Denot c.row.C.Denot
