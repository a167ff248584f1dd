use Rattle.ds2_elaboration.proofs.CallExamples.{method_call_examples}
use Rattle.ds2_elaboration.proofs.laws.method_call_examples.Goals as goal

pub returns : goal.returns
returns c = method_call_examples
