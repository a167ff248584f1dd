use Rattle.ds2_code.proofs.MachineScales.{units_begin_scaled}
use Rattle.ds2_code.proofs.scale_laws.units_begin_scaled.Goals as goal

pub returns : goal.returns
returns c = units_begin_scaled
