-- The refusals of names in small units, computed.
use Rattle.std.proofs.Common.{refl}
use Rattle.ds2_names.specs.InstanceExamples.{InstanceNameExamples, UnitNameExamples, LimitExamples}

pub instance_name_examples : InstanceNameExamples
instance_name_examples = record {
  calls_are_taken = refl;
  unknown_key = refl;
  instance_as_data = refl;
  instance_as_key = refl;
  no_such_call = refl;
  too_many_arguments = refl;
  no_such_member = refl;
  instance_as_value = refl;
  instance_as_target = refl;
  variable_as_instance = refl;
  hidden_instance = refl;
  later_hash = refl;
  no_such_hash = refl;
  instance_of_a_variables_name = refl;
  reached_by_a_hash = refl;
  unknown_package = refl;
  constructor_without_argument = refl;
  constructor_is_taken = refl;
  constant_for_in_out = refl;
  call_of_a_package = refl;
  instance_for_in_out = refl;
  no_such_method = refl;
}

pub unit_name_examples : UnitNameExamples
unit_name_examples = record {
  second_package = refl;
  package_is_taken = refl;
  list_in_a_package = refl;
  thread_in_a_package = refl;
  unknown_package_in_a_package = refl;
  run_of_a_package = refl;
  reading_in_a_package = refl;
  columns_of_a_thread = refl;
  unknown_thread = refl;
  no_such_instance = refl;
  nothing_left = refl;
  parameters_in_init = refl;
  parameters_in_run = refl;
  missing_parameter = refl;
  in_out_of_a_thread = refl;
  parameter_of_a_thread = refl;
  output_of_a_name = refl;
  thread_in_a_thread = refl;
  unknown_thread_in_a_thread = refl;
  thread_read_by_a_thread = refl;
  no_column_of_the_read_thread = refl;
  column_of_the_read_thread_kept = refl;
  no_instance_read_by_a_thread = refl;
  table_read_by_a_thread = refl;
}

pub limit_examples : LimitExamples
limit_examples = record {
  sixty_five_programs = refl;
  sixty_four_programs = refl;
  too_many_tokens_with_it = refl;
  just_enough_tokens = refl;
  seventeenth_table = refl;
  made_table = refl;
  last_maker = refl;
  no_maker = refl;
  table_of_the_store = refl;
  table_of_the_first = refl;
}
