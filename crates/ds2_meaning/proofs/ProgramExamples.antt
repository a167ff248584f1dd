-- The small programs of the examples, computed.
use Rattle.std.proofs.Common.{refl}
use Rattle.std.specs.Fmt as fmt
use Rattle.std.specs.Str as str
use Rattle.ds2_value.specs.Order as order
use Rattle.ds2_value.specs.Texts as texts
use Rattle.ds2_value.specs.Value as value
use Rattle.ds2_meaning.specs.ProgramExamples.{UnitExamples, LoadExamples, StageExamples}

pub unit_examples : UnitExamples
unfolding value.sum_of value.difference_of value.product_of value.negative_of value.absolute_of value.remainder_of value.truth_of value.compared_of value.compare_of order.key_order texts.padded_cmp texts.without_blanks str.chars lib.Utf8.encode fmt.digits
unit_examples = record {
  retained = refl;
  not_retained = refl;
  init_run_term = refl;
  no_run = refl;
  several_outputs = refl;
  one_of_two_outputs = refl;
  fault_in_a_later_load = refl;
  constructed_first = refl;
}

pub load_examples : LoadExamples
unfolding value.sum_of value.difference_of value.product_of value.negative_of value.absolute_of value.remainder_of value.truth_of value.compared_of value.compare_of order.key_order texts.padded_cmp texts.without_blanks str.chars lib.Utf8.encode fmt.digits
load_examples = record {
  table_after_table = refl;
  interleaved = refl;
  descending = refl;
  flags = refl;
  merged = refl;
  merged_retaining = refl;
  merged_and_assigned = refl;
  merged_with_flags = refl;
  merged_without_rows = refl;
}

pub stage_examples : StageExamples
unfolding value.sum_of value.difference_of value.product_of value.negative_of value.absolute_of value.remainder_of value.truth_of value.compared_of value.compare_of order.key_order texts.padded_cmp texts.without_blanks str.chars lib.Utf8.encode fmt.digits
stage_examples = record {
  group_sums = refl;
  sums_that_go_on = refl;
  stage_is_noted = refl;
}
