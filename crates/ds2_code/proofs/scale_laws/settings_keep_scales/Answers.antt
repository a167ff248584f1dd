use Rattle.ds2_code.proofs.ScaledLists.{settings_scaled}
use Rattle.ds2_code.proofs.scale_laws.settings_keep_scales.Goals as goal

pub returns : goal.returns
returns c = settings_scaled
