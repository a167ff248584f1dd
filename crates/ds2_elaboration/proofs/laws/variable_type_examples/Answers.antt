use Rattle.ds2_elaboration.proofs.VariableExamples.{variable_type_examples}
use Rattle.ds2_elaboration.proofs.laws.variable_type_examples.Goals as goal

pub returns : goal.returns
returns c = variable_type_examples
