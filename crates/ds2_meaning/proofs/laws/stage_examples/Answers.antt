use Rattle.ds2_meaning.proofs.ProgramExamples.{stage_examples}
use Rattle.ds2_meaning.proofs.laws.stage_examples.Goals as goal

pub returns : goal.returns
returns c = stage_examples
