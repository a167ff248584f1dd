use Rattle.ds2_code.proofs.ScaledLists.{clearing_scaled}
use Rattle.ds2_code.proofs.scale_laws.clearing_keeps_scales.Goals as goal

pub returns : goal.returns
returns c = clearing_scaled
