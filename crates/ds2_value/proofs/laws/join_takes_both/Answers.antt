use Rattle.ds2_value.proofs.JoinLemmas.{takes-both}
use Rattle.ds2_value.proofs.laws.join_takes_both.Goals as goal

pub returns : goal.returns
returns c = takes-both
