use Rattle.ds2_object_instrs.proofs.InstrLemmas.{written_instr_law, instr_written, instr_only}
use Rattle.ds2_object_instrs.proofs.laws.instructions_have_one_writing.Goals as goal

pub returns : goal.returns
returns c = record { part = written_instr_law; again = instr_written; only = instr_only }
