use Rattle.ds2_elaboration.proofs.SourceExamples.{program_type_examples}
use Rattle.ds2_elaboration.proofs.laws.program_type_examples.Goals as goal

pub returns : goal.returns
returns c = program_type_examples
