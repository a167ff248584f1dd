-- The examples of listed columns, of the domain and of layouts, computed.
use Rattle.std.proofs.Common.{refl}
use Rattle.std.specs.Fmt as fmt
use Rattle.std.specs.Str as str
use Rattle.ds2_elaboration.specs.ListingExamples.{ListedColumnExamples, AssignedSourceExamples, SettableExamples, ThreadLayoutExamples}

pub listed_column_examples : ListedColumnExamples
unfolding str.chars str.is_utf8 lib.Utf8.encode fmt.digits
listed_column_examples = record { columns_left_of_each = refl }

pub assigned_source_examples : AssignedSourceExamples
unfolding str.chars str.is_utf8 lib.Utf8.encode fmt.digits
assigned_source_examples = record {
  sum_becomes_typed = refl;
  unknown_value = refl;
  text_for_integer = refl;
}

pub settable_examples : SettableExamples
settable_examples = record {
  parameter_is_settable = refl;
  flag_is_not_settable = refl;
}

pub thread_layout_examples : ThreadLayoutExamples
unfolding str.chars str.is_utf8 lib.Utf8.encode fmt.digits
thread_layout_examples = record {
  parameters_are_kept = refl;
  variables_of_instances = refl;
  retained_columns = refl;
  of_the_reader = refl;
  of_its_thread_program = refl;
}
