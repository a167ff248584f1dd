use Rattle.ds2_meaning.proofs.HashExamples.{iterator_examples}
use Rattle.ds2_meaning.proofs.laws.iterator_examples.Goals as goal

pub returns : goal.returns
returns c = iterator_examples
