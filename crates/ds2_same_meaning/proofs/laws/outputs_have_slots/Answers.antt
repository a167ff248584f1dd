use Rattle.ds2_same_meaning.proofs.OutputsAlike.{outputs_have_slots}
use Rattle.ds2_same_meaning.proofs.laws.outputs_have_slots.Goals as goal

pub returns : goal.returns
returns c = outputs_have_slots
