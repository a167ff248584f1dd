use Rattle.ds2_value.proofs.JoinLemmas.{takes-onward}
use Rattle.ds2_value.proofs.laws.takes_onward.Goals as goal

pub returns : goal.returns
returns c = takes-onward
