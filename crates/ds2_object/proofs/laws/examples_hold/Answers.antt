use Rattle.std.proofs.Common.{refl}
use Rattle.std.specs.Str.{chars, is_utf8}
use Rattle.ds2_object_words.specs.Parts.{byte_part, number16_part, number32_part}
use Rattle.ds2_object_words.specs.Words.{flag_part, text_part, name_part}
use Rattle.ds2_object_instrs.specs.InstrSpelling.{operation_part, written_instr_part}
use Rattle.ds2_object.specs.ObjectSpelling.{programs_part}
use Rattle.ds2_object_programs.specs.ProgramSpelling.{no_name_part, thread_name_part, globals_part, units_part, thread_reading_part, thread_program_part, threads_part, stage_part, data_reading_part, data_program_part}
use Rattle.ds2_object.proofs.laws.examples_hold.Goals as goal

pub returns : goal.returns
unfolding byte_part number16_part number32_part flag_part text_part name_part chars is_utf8 operation_part written_instr_part programs_part no_name_part thread_name_part globals_part units_part thread_reading_part thread_program_part threads_part stage_part data_reading_part data_program_part lib.Utf8.encode
returns c = record {
  nothing_spelled = refl;
  nothing_read = refl;
  cut_in_the_magic = refl;
  other_magic = refl;
  other_version = refl;
  byte_behind = refl;
  named_data_program = refl;
  code_past_the_last = refl;
  count_alone = refl;
  stage_in_a_stage = refl;
  comparison_of_six = refl;
}
