use Rattle.ds2_deeds.proofs.MethodLemmas.{own_are_first}
use Rattle.ds2_deeds.proofs.laws.own_methods_are_first.Goals as goal

pub returns : goal.returns
returns c = own_are_first
