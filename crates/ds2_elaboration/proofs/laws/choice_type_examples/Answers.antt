use Rattle.ds2_elaboration.proofs.CallExamples.{choice_type_examples}
use Rattle.ds2_elaboration.proofs.laws.choice_type_examples.Goals as goal

pub returns : goal.returns
returns c = choice_type_examples
