use Rattle.ds2_code.proofs.FittingOpening.{rows_set_what_fits}
use Rattle.ds2_code.proofs.fitting_laws.rows_set_what_fits.Goals as goal

pub returns : goal.returns
returns c = rows_set_what_fits c.fitting_is_held.ensures c.assigned_fits.ensures
