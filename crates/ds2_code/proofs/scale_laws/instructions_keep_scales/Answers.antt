use Rattle.ds2_code.proofs.MachineScales.{instructions_keep_scales}
use Rattle.ds2_code.proofs.scale_laws.instructions_keep_scales.Goals as goal

pub returns : goal.returns
returns c = instructions_keep_scales
