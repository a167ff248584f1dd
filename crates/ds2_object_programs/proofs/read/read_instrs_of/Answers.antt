use Rattle.std.proofs.Common.{arith}
use Rattle.ds2_object_words.specs.Parts.{items_read}
use Rattle.ds2_object_instrs.specs.InstrSpelling.{written_instr_part, instr_of}
use Rattle.ds2_object_programs.specs.ProgramSpelling.{read_as, instrs_of}
use Rattle.ds2_object_programs.proofs.MadeSteps.{one_taken}
use Rattle.ds2_object_programs.proofs.read.read_instrs_of.Goals as goal

pub instrs-preserved : goal.instrs-preserved
instrs-preserved c =
    one_taken written_instr_part instr_of c.instrs.each_is_one c.in_ok-each_is_one.each_is_one c.instrs.instrs c.push_made.new.items c.args.count c.instrs.i c.instrs.bytes
    c.read_instr.new.bytes c.in_ok-made.made (read_as instrs_of (items_read written_instr_part c.args.count c.args.bytes.now)) (omega (arith, c.instrs-test.true)) c.in_ok-made.ensures
    c.in_ok-each_is_one.ensures c.instrs.invariant
