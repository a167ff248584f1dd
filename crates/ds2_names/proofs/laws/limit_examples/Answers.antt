use Rattle.ds2_names.proofs.InstanceExamples.{limit_examples}
use Rattle.ds2_names.proofs.laws.limit_examples.Goals as goal

pub returns : goal.returns
returns c = limit_examples
