use Rattle.ds2_program_code.proofs.laws.typed_programs_keep_meaning.Goals as goal
use Rattle.ds2_program_code.specs.ProgramCode.{init_numbers, run_numbers, term_numbers, program_code}
use Rattle.ds2_program_code.specs.ProgramCodeLaws.{declared_numbers}

pub returns : goal.returns
returns c = λ p typed. c.code_keeps_meaning.ensures (program_code p) p (init_numbers p) (run_numbers p) (term_numbers p) (declared_numbers p) (c.typed_programs_have_code.ensures p typed)
