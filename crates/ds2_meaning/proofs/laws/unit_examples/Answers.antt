use Rattle.ds2_meaning.proofs.ProgramExamples.{unit_examples}
use Rattle.ds2_meaning.proofs.laws.unit_examples.Goals as goal

pub returns : goal.returns
returns c = unit_examples
