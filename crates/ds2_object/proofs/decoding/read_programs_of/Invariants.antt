use Rattle.std.proofs.Common.{◌≡◌, ◌-◌}
use Rattle.ds2_object_words.specs.Parts.{items_read}
use Rattle.ds2_object_programs.specs.ProgramSpelling.{data_program_part, data_parts, read_as}
use Rattle.ds2_object_programs.proofs.MadeSteps.{made_left}
use Rattle.ds2_object.specs.ObjectSpelling.{object_parts}
use Rattle.ds2_object.proofs.decoding.read_programs_of.Given as goal

abbrev pub invariant-programs : goal.invariant-programs
invariant-programs l = made_left data_program_part data_parts l.is_whole l.programs (l.count - l.i) l.bytes ≡ read_as object_parts (items_read data_program_part l.count l.fn.bytes)
