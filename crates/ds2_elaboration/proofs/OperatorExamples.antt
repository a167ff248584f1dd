-- The examples of operators, computed.
use Rattle.std.proofs.Common.{refl}
use Rattle.std.specs.Fmt as fmt
use Rattle.std.specs.Str as str
use Rattle.ds2_elaboration.specs.OperatorExamples.{OperatorExamples, TruthTypeExamples, AssignmentExamples}

pub operator_examples : OperatorExamples
unfolding str.chars str.is_utf8 lib.Utf8.encode fmt.digits
operator_examples = record {
  integer_sum = refl;
  left_widened = refl;
  right_widened = refl;
  sum_widened = refl;
  quotient = refl;
  product_scale = refl;
  product_widened = refl;
  second_scale_too_large = refl;
  scale_too_large = refl;
  product_clash = refl;
  sum_clash = refl;
  first_operator = refl;
  second_operator = refl;
  null_operand = refl;
  null_in_parentheses = refl;
  text_beside_null = refl;
  text_beside_refused = refl;
  number_beside_null = refl;
  null_before_text = refl;
  texts_joined = refl;
  number_joined = refl;
  integer_negated = refl;
  decimal_negated = refl;
  text_negated = refl;
}

pub truth_type_examples : TruthTypeExamples
unfolding str.chars str.is_utf8 lib.Utf8.encode fmt.digits
truth_type_examples = record {
  numbers_are_true = refl;
  text_on_the_right = refl;
  text_on_the_left = refl;
  not_of_text = refl;
  either = refl;
  either_of_text = refl;
  not_of_null = refl;
  comparison_widened = refl;
  texts_compared = refl;
  null_compared = refl;
  nulls_compared = refl;
  unlike_compared = refl;
  type_all_the_same = refl;
  no_type_around = refl;
}

pub assignment_examples : AssignmentExamples
unfolding str.chars str.is_utf8 lib.Utf8.encode fmt.digits
assignment_examples = record {
  one_type = refl;
  one_text_type = refl;
  integer_to_decimal = refl;
  decimal_to_decimal = refl;
  filled = refl;
  cut = refl;
  null_assigned = refl;
  null_in_parentheses_assigned = refl;
  decimal_to_integer = refl;
  text_to_number = refl;
  number_to_text = refl;
  decimal_digits = refl;
  digits_behind_the_point = refl;
  quote_in_text = refl;
  empty_text = refl;
  first_of_two_types = refl;
  names_first = refl;
}
