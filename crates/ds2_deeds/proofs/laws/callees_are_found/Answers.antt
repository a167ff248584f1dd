use Rattle.ds2_deeds.proofs.CalledLemmas.{callees_numbered}
use Rattle.ds2_deeds.proofs.laws.callees_are_found.Goals as goal

pub returns : goal.returns
returns c = callees_numbered
