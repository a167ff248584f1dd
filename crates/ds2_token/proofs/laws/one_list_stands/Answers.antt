use Rattle.ds2_token.proofs.OneAnswer.{one_list_stands}
use Rattle.ds2_token.proofs.laws.one_list_stands.Goals as goal

pub returns : goal.returns
returns c = one_list_stands
