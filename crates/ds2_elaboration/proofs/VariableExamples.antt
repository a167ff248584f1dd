-- The examples of columns, flags, parameters and locals, computed.
use Rattle.std.proofs.Common.{refl}
use Rattle.std.specs.Fmt as fmt
use Rattle.std.specs.Str as str
use Rattle.ds2_elaboration.specs.VariableExamples.{UnjoinedColumnExamples, VariableTypeExamples}

pub unjoined_column_examples : UnjoinedColumnExamples
unfolding str.chars str.is_utf8 lib.Utf8.encode fmt.digits
unjoined_column_examples = record {
  read_unjoined = refl;
  set_unjoined = refl;
  sum_of_unjoined = refl;
  text_of_unjoined = refl;
  compared_unjoined = refl;
  length_of_unjoined = refl;
  handed_over_unjoined = refl;
  counted_unjoined = refl;
  length_is_integer = refl;
  value_for_unjoined = refl;
  hidden_unjoined = refl;
  declared_unjoined = refl;
}

pub variable_type_examples : VariableTypeExamples
unfolding str.chars str.is_utf8 lib.Utf8.encode fmt.digits
variable_type_examples = record {
  present_value = refl;
  first_value = refl;
  last_value = refl;
  present_to_text = refl;
  both_arguments = refl;
  second_argument_clashes = refl;
  flags_put = refl;
  parameter_hides = refl;
  number_to_parameter = refl;
  local_hides = refl;
  number_to_local = refl;
}
