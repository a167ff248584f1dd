use Rattle.ds2_object.proofs.ObjectSteps.{decoded_spelled}
use Rattle.ds2_object.proofs.laws.what_is_decoded_is_encoded.Goals as goal

pub returns : goal.returns
returns c = decoded_spelled
