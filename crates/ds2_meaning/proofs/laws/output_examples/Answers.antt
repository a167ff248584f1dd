use Rattle.ds2_meaning.proofs.StatementExamples.{output_examples}
use Rattle.ds2_meaning.proofs.laws.output_examples.Goals as goal

pub returns : goal.returns
returns c = output_examples
