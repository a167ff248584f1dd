use Rattle.ds2_code.proofs.FittingMachine.{units_end_fitting}
use Rattle.ds2_code.proofs.fitting_laws.units_end_fitting.Goals as goal

pub returns : goal.returns
returns c = units_end_fitting c.fitting_is_held.ensures c.assigned_fits.ensures
