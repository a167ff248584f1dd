use Rattle.ds2_meaning.proofs.FurtherExamples.{conversion_examples}
use Rattle.ds2_meaning.proofs.laws.conversion_examples.Goals as goal

pub returns : goal.returns
returns c = conversion_examples
