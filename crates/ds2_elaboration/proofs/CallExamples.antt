-- The examples of calls and statements, computed.
use Rattle.std.proofs.Common.{refl}
use Rattle.std.specs.Fmt as fmt
use Rattle.std.specs.Str as str
use Rattle.ds2_elaboration.specs.CallExamples.{FunctionExamples, MethodCallExamples, ChoiceTypeExamples}

pub function_examples : FunctionExamples
unfolding str.chars str.is_utf8 lib.Utf8.encode fmt.digits
function_examples = record {
  coalesce_of_numbers = refl;
  coalesce_of_texts = refl;
  coalesce_of_one = refl;
  coalesce_of_nulls = refl;
  coalesce_of_unlike = refl;
  least_integer_type = refl;
  greatest_decimal = refl;
  greatest_of_text = refl;
  greatest_of_null = refl;
  remainder_widened = refl;
  absolute_keeps_its_type = refl;
  floor_of_integer = refl;
  ceiling_of_decimal = refl;
  length_of_text = refl;
  length_of_number = refl;
  length_all_the_same = refl;
  trim_of_number = refl;
  part_of_text = refl;
  part_of_decimal_length = refl;
  null_test = refl;
  null_test_of_null = refl;
  function_as_statement = refl;
}

pub method_call_examples : MethodCallExamples
unfolding str.chars str.is_utf8 lib.Utf8.encode fmt.digits
method_call_examples = record {
  method_called = refl;
  null_passed = refl;
  decimal_passed = refl;
  call_all_the_same = refl;
  nothing_returned = refl;
  variable_handed_over = refl;
  result_dropped = refl;
  other_type_handed_over = refl;
}

pub choice_type_examples : ChoiceTypeExamples
unfolding str.chars str.is_utf8 lib.Utf8.encode fmt.digits
choice_type_examples = record {
  decimal_condition = refl;
  text_condition = refl;
  null_condition = refl;
  counted = refl;
  counted_by_decimal = refl;
  counted_from_decimal = refl;
  counted_to_text = refl;
  counted_by_step = refl;
  decimal_step = refl;
  tested_before = refl;
  tested_behind = refl;
  text_tested = refl;
  selected_as_true = refl;
  text_as_true = refl;
  selected_as_decimals = refl;
  unlike_test = refl;
  two_kinds = refl;
  null_selected = refl;
  null_test_refused = refl;
}
