use Rattle.ds2_meaning.proofs.FurtherExamples.{round_examples}
use Rattle.ds2_meaning.proofs.laws.round_examples.Goals as goal

pub returns : goal.returns
returns c = round_examples
