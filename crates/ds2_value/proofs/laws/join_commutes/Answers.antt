use Rattle.ds2_value.proofs.JoinLemmas.{commutes}
use Rattle.ds2_value.proofs.laws.join_commutes.Goals as goal

pub returns : goal.returns
returns c = commutes
