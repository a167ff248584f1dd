use Rattle.ds2_object.proofs.ObjectLemmas.{spelled_read}
use Rattle.ds2_object.proofs.laws.spelling_is_read.Goals as goal

pub returns : goal.returns
returns c = spelled_read
