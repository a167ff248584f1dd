use Rattle.ds2_token.proofs.OneAnswer.{one_refusal_is_first}
use Rattle.ds2_token.proofs.laws.one_refusal_is_first.Goals as goal

pub returns : goal.returns
returns c = one_refusal_is_first
