-- The examples of programs and sources, computed.
use Rattle.std.proofs.Common.{refl}
use Rattle.std.specs.Fmt as fmt
use Rattle.std.specs.Str as str
use Rattle.ds2_elaboration.specs.SourceExamples.{ProgramTypeExamples, TwoProgramExamples, LayoutExamples}

pub program_type_examples : ProgramTypeExamples
unfolding str.chars str.is_utf8 lib.Utf8.encode fmt.digits
program_type_examples = record {
  no_return = refl;
  surely_returned = refl;
  returned_value_converted = refl;
  widened_alone = refl;
  joined_at_most = refl;
  null_returned = refl;
  decimal_returned = refl;
  columns_joined = refl;
  numbers_joined = refl;
  columns_clash = refl;
  three_joined = refl;
  third_clashes = refl;
  second_of_three_clashes = refl;
  declared_clashes = refl;
  declared_clashes_first = refl;
  declared_joins = refl;
  declared_char_clashes = refl;
  outputs_made = refl;
  no_load = refl;
  one_load = refl;
  merged = refl;
}

pub two_program_examples : TwoProgramExamples
unfolding str.chars str.is_utf8 lib.Utf8.encode fmt.digits
two_program_examples = record {
  later_program_reads = refl;
  tables_have_makers = refl;
  first_program_refused = refl;
  first_types_refused = refl;
  second_program_refused = refl;
}

pub layout_examples : LayoutExamples
unfolding str.chars str.is_utf8 lib.Utf8.encode fmt.digits
layout_examples = record {
  slots_in_order = refl;
  renamed_output = refl;
}
