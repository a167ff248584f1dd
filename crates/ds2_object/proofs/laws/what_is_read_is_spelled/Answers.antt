use Rattle.ds2_object.proofs.ObjectLemmas.{read_is_spelled}
use Rattle.ds2_object.proofs.laws.what_is_read_is_spelled.Goals as goal

pub returns : goal.returns
returns c = read_is_spelled
