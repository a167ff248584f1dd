use Rattle.ds2_code.proofs.FittingUnits.{valid_code_leaves_what_fits}
use Rattle.ds2_code.proofs.fitting_laws.valid_code_leaves_what_fits.Goals as goal

pub returns : goal.returns
returns c = valid_code_leaves_what_fits c.valid_code_ends.ensures c.units_begin_fitting.ensures c.instructions_keep_types.ensures c.units_end_fitting.ensures c.faults_leave_rows.ensures
