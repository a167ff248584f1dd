use Rattle.ds2_locality.proofs.Coarser.{coarser_holds}
use Rattle.ds2_locality.proofs.laws.coarser_holds.Goals as goal

pub returns : goal.returns
returns c = coarser_holds
