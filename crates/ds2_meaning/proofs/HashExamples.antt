-- The small programs of the examples, computed.
use Rattle.std.proofs.Common.{refl}
use Rattle.std.specs.Fmt as fmt
use Rattle.std.specs.Str as str
use Rattle.ds2_value.specs.Order as order
use Rattle.ds2_value.specs.Texts as texts
use Rattle.ds2_value.specs.Value as value
use Rattle.ds2_meaning.specs.HashExamples.{HashExamples, IteratorExamples, InstanceExamples}

pub hash_examples : HashExamples
unfolding value.sum_of value.difference_of value.product_of value.negative_of value.absolute_of value.remainder_of value.truth_of value.compared_of value.compare_of order.key_order texts.padded_cmp texts.without_blanks str.chars lib.Utf8.encode fmt.digits
hash_examples = record {
  found_and_missed = refl;
  billed = refl;
  first_row_of_a_key = refl;
  nothing_loaded = refl;
  checked = refl;
  replaced = refl;
  removed = refl;
  cleared = refl;
  null_key = refl;
  hidden_variable = refl;
}

pub iterator_examples : IteratorExamples
unfolding value.sum_of value.difference_of value.product_of value.negative_of value.absolute_of value.remainder_of value.truth_of value.compared_of value.compare_of order.key_order texts.padded_cmp texts.without_blanks str.chars lib.Utf8.encode fmt.digits
iterator_examples = record {
  next_from_nowhere = refl;
  prev_from_nowhere = refl;
  removed_before = refl;
  removed_there = refl;
  removed_first = refl;
  removed_behind = refl;
  cleared_under_it = refl;
  last_of_none = refl;
}

pub instance_examples : InstanceExamples
unfolding value.sum_of value.difference_of value.product_of value.negative_of value.absolute_of value.remainder_of value.truth_of value.compared_of value.compare_of order.key_order texts.padded_cmp texts.without_blanks str.chars lib.Utf8.encode fmt.digits
instance_examples = record {
  own_items = refl;
  last_parameters = refl;
  other_parameters = refl;
  two_tables_of_one_name = refl;
}
