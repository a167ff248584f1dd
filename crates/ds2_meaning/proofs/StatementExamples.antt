-- The small programs of the examples, computed.
use Rattle.std.proofs.Common.{refl}
use Rattle.std.specs.Fmt as fmt
use Rattle.std.specs.Str as str
use Rattle.ds2_value.specs.Order as order
use Rattle.ds2_value.specs.Texts as texts
use Rattle.ds2_value.specs.Value as value
use Rattle.ds2_meaning.specs.StatementExamples.{ChoiceExamples, LoopExamples, OutputExamples, MethodExamples}

pub choice_examples : ChoiceExamples
unfolding value.sum_of value.difference_of value.product_of value.negative_of value.absolute_of value.remainder_of value.truth_of value.compared_of value.compare_of order.key_order texts.padded_cmp texts.without_blanks str.chars lib.Utf8.encode fmt.digits
choice_examples = record {
  else_of_the_nearest_if = refl;
  else_part_is_taken = refl;
  unknown_takes_the_else_part = refl;
  fault_at_the_chained_if = refl;
  selected_by_value = refl;
  selected_by_condition = refl;
  no_when_applies = refl;
  no_when_at_all = refl;
}

pub loop_examples : LoopExamples
unfolding value.sum_of value.difference_of value.product_of value.negative_of value.absolute_of value.remainder_of value.truth_of value.compared_of value.compare_of order.key_order texts.padded_cmp texts.without_blanks str.chars lib.Utf8.encode fmt.digits
loop_examples = record {
  counts_down = refl;
  null_end = refl;
  null_step = refl;
  end_is_evaluated_once = refl;
  until_tests_behind_its_body = refl;
  while_tests_before_its_body = refl;
  innermost_loop = refl;
  spent_at_a_test = refl;
  step_overflows = refl;
}

pub output_examples : OutputExamples
unfolding value.sum_of value.difference_of value.product_of value.negative_of value.absolute_of value.remainder_of value.truth_of value.compared_of value.compare_of order.key_order texts.padded_cmp texts.without_blanks str.chars lib.Utf8.encode fmt.digits
output_examples = record {
  lines_of_items = refl;
  rows_where_they_are_written = refl;
  row_at_a_return = refl;
  no_row_where_an_output_stands = refl;
  blocks_and_empty_statements_are_steps = refl;
}

pub method_examples : MethodExamples
unfolding value.sum_of value.difference_of value.product_of value.negative_of value.absolute_of value.remainder_of value.truth_of value.compared_of value.compare_of order.key_order texts.padded_cmp texts.without_blanks str.chars lib.Utf8.encode fmt.digits
method_examples = record {
  hundred_deep = refl;
  one_too_deep = refl;
  spent_at_a_call = refl;
  swapped = refl;
  added_up = refl;
  locals_are_null_at_entry = refl;
  fault_inside_a_method = refl;
  place_behind_a_call = refl;
}
