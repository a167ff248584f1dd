use Rattle.ds2_value.proofs.KeepLemmas.{keeps}
use Rattle.ds2_value.proofs.laws.assign_keeps.Goals as goal

pub returns : goal.returns
returns c = keeps
