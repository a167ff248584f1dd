use Rattle.ds2_meaning.proofs.StatementExamples.{loop_examples}
use Rattle.ds2_meaning.proofs.laws.loop_examples.Goals as goal

pub returns : goal.returns
returns c = loop_examples
