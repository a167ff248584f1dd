use Rattle.ds2_meaning.proofs.ExpressionExamples.{integer_examples}
use Rattle.ds2_meaning.proofs.laws.integer_examples.Goals as goal

pub returns : goal.returns
returns c = integer_examples
