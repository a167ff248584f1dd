use Rattle.ds2_meaning.proofs.EdgeExamples.{text_limit_examples}
use Rattle.ds2_meaning.proofs.laws.text_limit_examples.Goals as goal

pub returns : goal.returns
returns c = text_limit_examples
