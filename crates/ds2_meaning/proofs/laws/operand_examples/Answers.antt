use Rattle.ds2_meaning.proofs.FormExamples.{operand_examples}
use Rattle.ds2_meaning.proofs.laws.operand_examples.Goals as goal

pub returns : goal.returns
returns c = operand_examples
