use Rattle.ds2_gen.proofs.ExpressionRuns.{expressions_evaluate}
use Rattle.ds2_gen.proofs.laws.expressions_evaluate.Goals as goal

pub returns : goal.returns
returns c = expressions_evaluate
