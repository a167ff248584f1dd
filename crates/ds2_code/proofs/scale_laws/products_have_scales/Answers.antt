use Rattle.ds2_code.proofs.MachineScales.{products_have_scales}
use Rattle.ds2_code.proofs.scale_laws.products_have_scales.Goals as goal

pub returns : goal.returns
returns c = products_have_scales
