-- The refusals of names in further small data programs, computed.
use Rattle.std.proofs.Common.{refl}
use Rattle.ds2_names.specs.FurtherNameExamples.{FurtherNameExamples}

pub further_name_examples : FurtherNameExamples
further_name_examples = record {
  instance_is_listed = refl;
  parameter_is_listed = refl;
  listed_twice = refl;
  key_and_data_variable = refl;
  renaming_what_is_dropped = refl;
  expression_for_in_out = refl;
  columns_of_run = refl;
  columns_of_a_misplaced_reading = refl;
  call_of_a_system_method = refl;
  two_arguments_for_one = refl;
  flag_as_target = refl;
  value_returned_by_run = refl;
  output_in_a_method = refl;
  parameter_of_init = refl;
}
