use Rattle.ds2_code.proofs.MachineScales.{units_end_scaled}
use Rattle.ds2_code.proofs.scale_laws.units_end_scaled.Goals as goal

pub returns : goal.returns
returns c = units_end_scaled
