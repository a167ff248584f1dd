use Rattle.std.proofs.Common.{◌≡◌, ◌-◌}
use Rattle.ds2_object_words.specs.Parts.{items_read}
use Rattle.ds2_object_instrs.specs.InstrSpelling.{written_instr_part, instr_of}
use Rattle.ds2_object_programs.specs.ProgramSpelling.{read_as, instrs_of}
use Rattle.ds2_object_programs.proofs.MadeSteps.{made_left}
use Rattle.ds2_object_programs.proofs.read.read_instrs_of.Given as goal

abbrev pub invariant-instrs : goal.invariant-instrs
invariant-instrs l = made_left written_instr_part instr_of l.each_is_one l.instrs (l.count - l.i) l.bytes ≡ read_as instrs_of (items_read written_instr_part l.count l.fn.bytes)
