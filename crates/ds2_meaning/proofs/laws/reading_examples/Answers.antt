use Rattle.ds2_meaning.proofs.FurtherExamples.{reading_examples}
use Rattle.ds2_meaning.proofs.laws.reading_examples.Goals as goal

pub returns : goal.returns
returns c = reading_examples
