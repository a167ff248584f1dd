use Rattle.ds2_meaning.proofs.HashExamples.{instance_examples}
use Rattle.ds2_meaning.proofs.laws.instance_examples.Goals as goal

pub returns : goal.returns
returns c = instance_examples
