use Rattle.ds2_value.proofs.KeepLemmas.{fitting-held}
use Rattle.ds2_value.proofs.laws.fitting_is_held.Goals as goal

pub returns : goal.returns
returns c = fitting-held
