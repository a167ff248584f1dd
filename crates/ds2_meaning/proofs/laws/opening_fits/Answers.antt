use Rattle.ds2_meaning.proofs.Opening.{opening_fits}
use Rattle.ds2_meaning.proofs.laws.opening_fits.Goals as goal

pub returns : goal.returns
returns c = opening_fits c.fitting_is_held.ensures c.assigned_fits.ensures
