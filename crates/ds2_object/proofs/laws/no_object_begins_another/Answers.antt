use Rattle.ds2_object.proofs.ObjectLemmas.{begins_no_object}
use Rattle.ds2_object.proofs.laws.no_object_begins_another.Goals as goal

pub returns : goal.returns
returns c = begins_no_object
