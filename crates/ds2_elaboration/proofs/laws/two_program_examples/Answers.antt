use Rattle.ds2_elaboration.proofs.SourceExamples.{two_program_examples}
use Rattle.ds2_elaboration.proofs.laws.two_program_examples.Goals as goal

pub returns : goal.returns
returns c = two_program_examples
