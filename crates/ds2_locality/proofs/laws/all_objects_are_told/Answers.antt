use Rattle.ds2_locality.proofs.Told.{all_objects_are_told}
use Rattle.ds2_locality.proofs.laws.all_objects_are_told.Goals as goal

pub returns : goal.returns
returns c = all_objects_are_told
