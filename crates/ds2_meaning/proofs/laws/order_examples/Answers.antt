use Rattle.ds2_meaning.proofs.FormExamples.{order_examples}
use Rattle.ds2_meaning.proofs.laws.order_examples.Goals as goal

pub returns : goal.returns
returns c = order_examples
