use Rattle.ds2_locality.proofs.Independent.{typed_local_independent}
use Rattle.ds2_locality.proofs.laws.local_is_independent.Goals as goal

pub returns : goal.returns
returns c = typed_local_independent
