use Rattle.ds2_elaboration.proofs.VariableExamples.{unjoined_column_examples}
use Rattle.ds2_elaboration.proofs.laws.unjoined_column_examples.Goals as goal

pub returns : goal.returns
returns c = unjoined_column_examples
