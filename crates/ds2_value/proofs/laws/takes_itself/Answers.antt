use Rattle.ds2_value.proofs.JoinLemmas.{takes-itself}
use Rattle.ds2_value.proofs.laws.takes_itself.Goals as goal

pub returns : goal.returns
returns c = takes-itself
