use Rattle.ds2_code_answer.proofs.Endings.{valid_code_has_endings}
use Rattle.ds2_code_answer.proofs.laws.valid_code_has_endings.Goals as goal

pub returns : goal.returns
returns c = valid_code_has_endings c.valid_code_ends.ensures
