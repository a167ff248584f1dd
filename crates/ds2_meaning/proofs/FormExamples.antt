-- The small programs of the examples, computed.
use Rattle.std.proofs.Common.{refl}
use Rattle.std.specs.Fmt as fmt
use Rattle.std.specs.Str as str
use Rattle.ds2_value.specs.Order as order
use Rattle.ds2_value.specs.Texts as texts
use Rattle.ds2_value.specs.Value as value
use Rattle.ds2_meaning.specs.FormExamples.{OperandExamples, OrderExamples, FaultFormExamples, TableExamples}

pub operand_examples : OperandExamples
unfolding value.sum_of value.difference_of value.product_of value.negative_of value.absolute_of value.remainder_of value.truth_of value.compared_of value.compare_of order.key_order texts.padded_cmp texts.without_blanks str.chars lib.Utf8.encode fmt.digits
operand_examples = record {
  integers_beside_null = refl;
  decimals_beside_null = refl;
  differences_and_rounding = refl;
  each_comparison = refl;
}

pub order_examples : OrderExamples
unfolding value.sum_of value.difference_of value.product_of value.negative_of value.absolute_of value.remainder_of value.truth_of value.compared_of value.compare_of order.key_order texts.padded_cmp texts.without_blanks str.chars lib.Utf8.encode fmt.digits
order_examples = record {
  handed_back_at_once = refl;
  operands_from_the_left = refl;
  or_evaluates_both = refl;
  first_argument_overflows = refl;
  first_argument_divides = refl;
}

pub fault_form_examples : FaultFormExamples
unfolding value.sum_of value.difference_of value.product_of value.negative_of value.absolute_of value.remainder_of value.truth_of value.compared_of value.compare_of order.key_order texts.padded_cmp texts.without_blanks str.chars lib.Utf8.encode fmt.digits
fault_form_examples = record {
  before_the_first = refl;
  decimal_remainder_of_zero = refl;
  least_integer_negated = refl;
  spent_at_a_declaration = refl;
  spent_at_a_constructor = refl;
  spent_within_a_constructor = refl;
}

pub table_examples : TableExamples
unfolding value.sum_of value.difference_of value.product_of value.negative_of value.absolute_of value.remainder_of value.truth_of value.compared_of value.compare_of order.key_order texts.padded_cmp texts.without_blanks str.chars lib.Utf8.encode fmt.digits
table_examples = record {
  one_row = refl;
  no_row = refl;
  sum_of_a_row_overflows = refl;
  second_step_is_missing = refl;
  just_enough_steps = refl;
  copied_texts = refl;
  first_fault_of_a_stage = refl;
  parameter_is_kept = refl;
}
