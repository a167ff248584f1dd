use Rattle.ds2_deeds.proofs.CalledLemmas.{reached_among}
use Rattle.ds2_deeds.proofs.laws.reached_are_found.Goals as goal

pub returns : goal.returns
returns c = reached_among
