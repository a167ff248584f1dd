-- The refusals of names in small data programs, computed.
use Rattle.std.proofs.Common.{refl}
use Rattle.ds2_names.specs.RuleExamples.{OutputNameExamples, RuleNameExamples, UnknownThreadExamples}

pub output_name_examples : OutputNameExamples
output_name_examples = record {
  renamed_to_another = refl;
  renamed_to_a_dropped_one = refl;
  exchanged = refl;
  columns_of_no_output = refl;
  both_renamed = refl;
  renamed_again = refl;
  nothing_renamed = refl;
  unknown_kept = refl;
  nothing_kept = refl;
  all_dropped = refl;
  option_again = refl;
  thread_without_columns = refl;
  seventeenth_output = refl;
  null_behind_sixteen = refl;
  output_again = refl;
}

pub rule_name_examples : RuleNameExamples
rule_name_examples = record {
  by_again = refl;
  by_no_column = refl;
  by_a_declared_one = refl;
  flag_is_taken = refl;
  flag_of_no_by = refl;
  two_variables = refl;
  one_variable = refl;
  reached_variable = refl;
  reached_behind_a_call = refl;
  global_again = refl;
  parameter_again = refl;
  method_again = refl;
  key_given_twice = refl;
  data_variable_given_twice = refl;
  target_given_twice = refl;
  argument_given_twice = refl;
  great_precision = refl;
  scale_above_precision = refl;
  greatest_precision = refl;
  no_width = refl;
  greatest_width = refl;
  great_width = refl;
  most_threads = refl;
  more_threads = refl;
}

pub unknown_thread_examples : UnknownThreadExamples
unknown_thread_examples = record {
  parameters_of_unknown = refl;
  value_may_be_column = refl;
  target_may_be_column = refl;
  argument_may_be_column = refl;
  hash_variables_may_be_columns = refl;
  kept_may_be_column = refl;
  dropped_may_be_column = refl;
  column_handed_twice = refl;
  instance_is_no_column = refl;
  instance_is_no_target = refl;
  no_column = refl;
}
