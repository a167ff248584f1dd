-- The small programs of the examples, computed.
use Rattle.std.proofs.Common.{refl}
use Rattle.std.specs.Fmt as fmt
use Rattle.std.specs.Str as str
use Rattle.ds2_value.specs.Order as order
use Rattle.ds2_value.specs.Texts as texts
use Rattle.ds2_value.specs.Value as value
use Rattle.ds2_meaning.specs.FurtherExamples.{NullExamples, ConversionExamples, RoundExamples, CallExamples, ReadingExamples, FaultExamples}

pub null_examples : NullExamples
unfolding value.sum_of value.difference_of value.product_of value.negative_of value.absolute_of value.remainder_of value.truth_of value.compared_of value.compare_of order.key_order texts.padded_cmp texts.without_blanks str.chars lib.Utf8.encode fmt.digits
null_examples = record {
  integers = refl;
  decimals = refl;
  texts = refl;
}

pub conversion_examples : ConversionExamples
unfolding value.sum_of value.difference_of value.product_of value.negative_of value.absolute_of value.remainder_of value.truth_of value.compared_of value.compare_of order.key_order texts.padded_cmp texts.without_blanks str.chars lib.Utf8.encode fmt.digits
conversion_examples = record {
  overflow_comes_first = refl;
  division_comes_first = refl;
  greatest_scale = refl;
  decimal_functions = refl;
  first_text = refl;
}

pub round_examples : RoundExamples
unfolding value.sum_of value.difference_of value.product_of value.negative_of value.absolute_of value.remainder_of value.truth_of value.compared_of value.compare_of order.key_order texts.padded_cmp texts.without_blanks str.chars lib.Utf8.encode fmt.digits
round_examples = record {
  while_goes_on = refl;
  continue_goes_to_the_test = refl;
  until_goes_on_with_null = refl;
  while_ends_with_null = refl;
  null_start = refl;
  step_of_zero = refl;
  null_when = refl;
}

pub call_examples : CallExamples
unfolding value.sum_of value.difference_of value.product_of value.negative_of value.absolute_of value.remainder_of value.truth_of value.compared_of value.compare_of order.key_order texts.padded_cmp texts.without_blanks str.chars lib.Utf8.encode fmt.digits
call_examples = record {
  return_out_of_a_loop = refl;
  return_in_the_middle = refl;
  dropped_result = refl;
  read_where_it_stands = refl;
  spent_inside_a_call = refl;
  own_variables = refl;
  output_in_init_and_term = refl;
}

pub reading_examples : ReadingExamples
unfolding value.sum_of value.difference_of value.product_of value.negative_of value.absolute_of value.remainder_of value.truth_of value.compared_of value.compare_of order.key_order texts.padded_cmp texts.without_blanks str.chars lib.Utf8.encode fmt.digits
reading_examples = record {
  interleaved_with_flags = refl;
  retained_within_a_key = refl;
  last_giver_wins = refl;
  merged_with_an_empty_table = refl;
  wider_variables = refl;
  groups_at_each_grain = (refl, refl, refl);
  groups_without_by = refl;
}

pub fault_examples : FaultExamples
unfolding value.sum_of value.difference_of value.product_of value.negative_of value.absolute_of value.remainder_of value.truth_of value.compared_of value.compare_of order.key_order texts.padded_cmp texts.without_blanks str.chars lib.Utf8.encode fmt.digits
fault_examples = record {
  in_init = refl;
  in_term = refl;
  lines_in_order = refl;
  in_the_stage = refl;
  in_a_load_of_the_stage = refl;
  noted_of_the_stage = refl;
}
