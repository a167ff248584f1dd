use Rattle.ds2_code.proofs.HashScales.{loaded_hashes_are_scaled}
use Rattle.ds2_code.proofs.scale_laws.loaded_hashes_are_scaled.Goals as goal

pub returns : goal.returns
returns c = loaded_hashes_are_scaled
