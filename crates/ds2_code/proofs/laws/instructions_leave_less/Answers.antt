use Rattle.ds2_code.proofs.RunsEnd.{instructions_leave_less}
use Rattle.ds2_code.proofs.laws.instructions_leave_less.Goals as goal

pub returns : goal.returns
returns c = instructions_leave_less
