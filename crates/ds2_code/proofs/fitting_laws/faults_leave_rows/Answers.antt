use Rattle.ds2_code.proofs.FittingMachine.{faults_leave_rows}
use Rattle.ds2_code.proofs.fitting_laws.faults_leave_rows.Goals as goal

pub returns : goal.returns
returns c = faults_leave_rows c.fitting_is_held.ensures c.assigned_fits.ensures
