use Rattle.ds2_object.proofs.ObjectLemmas.{cut_is_truncated}
use Rattle.ds2_object.proofs.laws.each_cut_is_truncated.Goals as goal

pub returns : goal.returns
returns c = cut_is_truncated
