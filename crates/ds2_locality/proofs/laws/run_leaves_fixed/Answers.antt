use Rattle.ds2_locality.proofs.Fixed.{run_leaves_fixed}
use Rattle.ds2_locality.proofs.laws.run_leaves_fixed.Goals as goal

pub returns : goal.returns
returns c = run_leaves_fixed
