use Rattle.ds2_elaboration.proofs.OperatorExamples.{assignment_examples}
use Rattle.ds2_elaboration.proofs.laws.assignment_examples.Goals as goal

pub returns : goal.returns
returns c = assignment_examples
