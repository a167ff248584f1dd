use Rattle.ds2_elaboration.proofs.CallExamples.{function_examples}
use Rattle.ds2_elaboration.proofs.laws.function_examples.Goals as goal

pub returns : goal.returns
returns c = function_examples
