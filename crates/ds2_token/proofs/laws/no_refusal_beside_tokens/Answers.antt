use Rattle.ds2_token.proofs.OneAnswer.{no_refusal_beside_tokens}
use Rattle.ds2_token.proofs.laws.no_refusal_beside_tokens.Goals as goal

pub returns : goal.returns
returns c = no_refusal_beside_tokens
