use Rattle.ds2_meaning.proofs.FurtherExamples.{call_examples}
use Rattle.ds2_meaning.proofs.laws.call_examples.Goals as goal

pub returns : goal.returns
returns c = call_examples
