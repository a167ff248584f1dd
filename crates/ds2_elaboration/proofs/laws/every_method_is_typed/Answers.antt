use Rattle.ds2_elaboration.proofs.Sources.{every_method_is_typed}
use Rattle.ds2_elaboration.proofs.laws.every_method_is_typed.Goals as goal

pub returns : goal.returns
returns c = every_method_is_typed c.join_takes_both.ensures c.takes_itself.ensures c.takes_onward.ensures
