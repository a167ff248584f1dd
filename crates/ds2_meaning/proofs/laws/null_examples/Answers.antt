use Rattle.ds2_meaning.proofs.FurtherExamples.{null_examples}
use Rattle.ds2_meaning.proofs.laws.null_examples.Goals as goal

pub returns : goal.returns
returns c = null_examples
