use Rattle.ds2_object_programs.proofs.AgainLemmas.{data_again, data_only}
use Rattle.ds2_object_programs.proofs.ProgramLemmas.{data_program_law}
use Rattle.ds2_object_programs.proofs.laws.programs_have_one_writing.Goals as goal

pub returns : goal.returns
returns c = record { part = data_program_law; again = data_again; only = data_only }
