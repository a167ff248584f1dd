use Rattle.ds2_code.proofs.FittingMachine.{instructions_keep_types}
use Rattle.ds2_code.proofs.fitting_laws.instructions_keep_types.Goals as goal

pub returns : goal.returns
returns c = instructions_keep_types c.fitting_is_held.ensures c.assigned_fits.ensures c.instructions_leave_less.ensures
