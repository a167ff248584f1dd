use Rattle.ds2_same_meaning.proofs.LeftUnchanged.{runs_leave_fixed_in_code}
use Rattle.ds2_same_meaning.proofs.locality_laws.runs_leave_fixed_in_code.Goals as goal

pub returns : goal.returns
returns c = runs_leave_fixed_in_code
