use Rattle.ds2_meaning.proofs.ExpressionExamples.{text_examples}
use Rattle.ds2_meaning.proofs.laws.text_examples.Goals as goal

pub returns : goal.returns
returns c = text_examples
