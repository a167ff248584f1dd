use Rattle.ds2_elaboration.proofs.OperatorExamples.{operator_examples}
use Rattle.ds2_elaboration.proofs.laws.operator_examples.Goals as goal

pub returns : goal.returns
returns c = operator_examples
