use Rattle.ds2_code.proofs.FittingOpening.{code_opening_fits}
use Rattle.ds2_code.proofs.fitting_laws.code_opening_fits.Goals as goal

pub returns : goal.returns
returns c = code_opening_fits c.fitting_is_held.ensures c.assigned_fits.ensures
