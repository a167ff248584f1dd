use Rattle.std.proofs.lemmas.Result.{on_ok_weaker}
use Rattle.ds2_deeds.specs.NumberedDeeds.{numbers_of}
use Rattle.ds2_deeds.proofs.DeedLemmas.{two_added}
use Rattle.ds2_deeds.proofs.statement_deeds.add_parameter_deeds.Goals as goal

pub returns : goal.returns
returns c = on_ok_weaker c.add_change.result (λ e. two_added (numbers_of c.args.numbers) _ _ _ _ _ c.in_ok-add_expression_deeds.ensures e) c.add_change.ensures
