use Rattle.ds2_code.proofs.FittingMachine.{units_begin_fitting}
use Rattle.ds2_code.proofs.fitting_laws.units_begin_fitting.Goals as goal

pub returns : goal.returns
returns c = units_begin_fitting c.units_begin_with_little.ensures
