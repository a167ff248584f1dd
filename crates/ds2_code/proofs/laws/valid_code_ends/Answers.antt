use Rattle.ds2_code.proofs.NeverStuck.{valid_code_ends}
use Rattle.ds2_code.proofs.laws.valid_code_ends.Goals as goal

pub returns : goal.returns
returns c = valid_code_ends
