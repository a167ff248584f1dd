use Rattle.ds2_elaboration.proofs.TokenOrder.{tokens_stand_in_order}
use Rattle.ds2_elaboration.proofs.laws.tokens_stand_in_order.Goals as goal

pub returns : goal.returns
returns c = tokens_stand_in_order
