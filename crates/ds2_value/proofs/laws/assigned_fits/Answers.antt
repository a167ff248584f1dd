use Rattle.ds2_value.proofs.KeepLemmas.{assigned}
use Rattle.ds2_value.proofs.laws.assigned_fits.Goals as goal

pub returns : goal.returns
returns c = assigned
