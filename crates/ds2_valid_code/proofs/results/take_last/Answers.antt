use Rattle.ds2_valid_code.proofs.StackLemmas.{argument_off}
use Rattle.ds2_valid_code.proofs.results.take_last.Goals as goal

pub returns : goal.returns
returns c = λ before. argument_off before c.args.last.now c.take_one.result c.args.types.now c.take_one.new.types c.take_one.ensures
