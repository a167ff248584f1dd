use Rattle.std.proofs.Common.{arith}
use Rattle.ds2_object_words.specs.Parts.{items_read}
use Rattle.ds2_object_programs.specs.ProgramSpelling.{data_program_part, data_parts, read_as}
use Rattle.ds2_object_programs.proofs.MadeSteps.{one_taken}
use Rattle.ds2_object.specs.ObjectSpelling.{object_parts}
use Rattle.ds2_object.proofs.decoding.read_programs_of.Goals as goal

pub programs-preserved : goal.programs-preserved
programs-preserved c =
    one_taken data_program_part data_parts c.programs.is_whole c.in_ok-is_whole.is_whole c.programs.programs c.push_made.new.items c.args.count c.programs.i c.programs.bytes
    c.read_data_program.new.bytes c.in_ok-made.made (read_as object_parts (items_read data_program_part c.args.count c.args.bytes.now)) (omega (arith, c.programs-test.true)) c.in_ok-made.ensures
    c.in_ok-is_whole.ensures c.programs.invariant
