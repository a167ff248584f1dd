use Rattle.ds2_meaning.proofs.StatementExamples.{method_examples}
use Rattle.ds2_meaning.proofs.laws.method_examples.Goals as goal

pub returns : goal.returns
returns c = method_examples
