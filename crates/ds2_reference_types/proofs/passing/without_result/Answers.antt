use Rattle.ds2_reference_types.proofs.MethodResults.{result_missing}
use Rattle.ds2_reference_types.proofs.passing.without_result.Goals as goal

pub returns : goal.returns
returns c = λ node a h. result_missing c.args.name node a c.args.arguments c.refusal.result c.broken_arguments.result h c.refusal.ensures c.broken_arguments.ensures
