use Rattle.ds2_meaning.proofs.ExpressionExamples.{truth_examples}
use Rattle.ds2_meaning.proofs.laws.truth_examples.Goals as goal

pub returns : goal.returns
returns c = truth_examples
