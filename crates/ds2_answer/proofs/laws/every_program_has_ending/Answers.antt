use Rattle.ds2_answer.proofs.ProgramEndings.{every_program_has_ending}
use Rattle.ds2_answer.proofs.laws.every_program_has_ending.Goals as goal

pub returns : goal.returns
returns c = every_program_has_ending c.valid_code_has_endings.ensures
