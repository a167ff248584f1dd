use Rattle.ds2_program_code.proofs.CodeExamples.{program_code_examples}
use Rattle.ds2_program_code.proofs.laws.program_code_examples.Goals as goal

pub returns : goal.returns
returns c = program_code_examples
