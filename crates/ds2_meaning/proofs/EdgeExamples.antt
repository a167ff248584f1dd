-- The small programs of the examples, computed.
use Rattle.std.proofs.Common.{refl}
use Rattle.std.specs.Fmt as fmt
use Rattle.std.specs.Str as str
use Rattle.ds2_value.specs.Order as order
use Rattle.ds2_value.specs.Texts as texts
use Rattle.ds2_value.specs.Value as value
use Rattle.ds2_meaning.specs.EdgeExamples.{EdgeExamples, TextLimitExamples}

pub edge_examples : EdgeExamples
unfolding value.sum_of value.difference_of value.product_of value.negative_of value.absolute_of value.remainder_of value.truth_of value.compared_of value.compare_of order.key_order texts.padded_cmp texts.without_blanks str.chars lib.Utf8.encode fmt.digits
edge_examples = record {
  null_on_the_right = refl;
  until_continues_at_its_test = refl;
  while_is_left = refl;
  return_out_of_while = refl;
  assigned_within_a_key = refl;
  merged_descending = refl;
  retained_column = refl;
  wider_than_the_thread = refl;
}

pub text_limit_examples : TextLimitExamples
unfolding value.sum_of value.difference_of value.product_of value.negative_of value.absolute_of value.remainder_of value.truth_of value.compared_of value.compare_of order.key_order texts.padded_cmp texts.without_blanks str.chars lib.Utf8.encode fmt.digits
text_limit_examples = record {
  joined_text_is_cut = refl;
  labelled_text_is_cut = refl;
}
