use Rattle.ds2_meaning.proofs.ExpressionExamples.{decimal_examples}
use Rattle.ds2_meaning.proofs.laws.decimal_examples.Goals as goal

pub returns : goal.returns
returns c = decimal_examples
