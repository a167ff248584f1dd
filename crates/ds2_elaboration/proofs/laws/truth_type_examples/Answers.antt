use Rattle.ds2_elaboration.proofs.OperatorExamples.{truth_type_examples}
use Rattle.ds2_elaboration.proofs.laws.truth_type_examples.Goals as goal

pub returns : goal.returns
returns c = truth_type_examples
