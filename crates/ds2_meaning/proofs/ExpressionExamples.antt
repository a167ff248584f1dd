-- The small programs of the examples, computed.
use Rattle.std.proofs.Common.{refl}
use Rattle.std.specs.Fmt as fmt
use Rattle.std.specs.Str as str
use Rattle.ds2_value.specs.Order as order
use Rattle.ds2_value.specs.Texts as texts
use Rattle.ds2_value.specs.Value as value
use Rattle.ds2_meaning.specs.ExpressionExamples.{IntegerExamples, DecimalExamples, TruthExamples, TextExamples}

pub integer_examples : IntegerExamples
unfolding value.sum_of value.difference_of value.product_of value.negative_of value.absolute_of value.remainder_of value.truth_of value.compared_of value.compare_of order.key_order texts.padded_cmp texts.without_blanks str.chars lib.Utf8.encode fmt.digits
integer_examples = record {
  sum_overflows = refl;
  chains_go_from_the_left = refl;
  null_operand_gives_null = refl;
  product_overflows = refl;
  signs = refl;
  least_integer = refl;
  remainder_has_the_sign_of_the_first = refl;
  remainder_of_zero = refl;
}

pub decimal_examples : DecimalExamples
unfolding value.sum_of value.difference_of value.product_of value.negative_of value.absolute_of value.remainder_of value.truth_of value.compared_of value.compare_of order.key_order texts.padded_cmp texts.without_blanks str.chars lib.Utf8.encode fmt.digits
decimal_examples = record {
  rounded = refl;
  product_of_nines = refl;
  product_of_tens = refl;
  assignment_overflows = refl;
  divided_by_zero = refl;
  null_divided_by_zero = refl;
  whole_parts = refl;
}

pub truth_examples : TruthExamples
unfolding value.sum_of value.difference_of value.product_of value.negative_of value.absolute_of value.remainder_of value.truth_of value.compared_of value.compare_of order.key_order texts.padded_cmp texts.without_blanks str.chars lib.Utf8.encode fmt.digits
truth_examples = record {
  compared = refl;
  combined = refl;
  both_sides_are_evaluated = refl;
  chosen = refl;
}

pub text_examples : TextExamples
unfolding value.sum_of value.difference_of value.product_of value.negative_of value.absolute_of value.remainder_of value.truth_of value.compared_of value.compare_of order.key_order texts.padded_cmp texts.without_blanks str.chars lib.Utf8.encode fmt.digits
text_examples = record {
  cut_and_filled = refl;
  parts = refl;
  past_the_end = refl;
  less_than_none = refl;
  null_text = refl;
}
