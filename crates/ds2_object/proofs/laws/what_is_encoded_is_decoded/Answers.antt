use Rattle.ds2_object.proofs.ObjectSteps.{given_back}
use Rattle.ds2_object.proofs.laws.what_is_encoded_is_decoded.Goals as goal

pub returns : goal.returns
returns c = given_back
