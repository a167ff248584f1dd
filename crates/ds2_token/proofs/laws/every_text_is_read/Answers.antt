use Rattle.ds2_token.proofs.EveryText.{every_text_is_read}
use Rattle.ds2_token.proofs.laws.every_text_is_read.Goals as goal

pub returns : goal.returns
returns c = every_text_is_read
