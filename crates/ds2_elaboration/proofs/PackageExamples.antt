-- The examples of packages, hash objects and thread programs, computed.
use Rattle.std.proofs.Common.{refl}
use Rattle.std.specs.Fmt as fmt
use Rattle.std.specs.Str as str
use Rattle.ds2_elaboration.specs.PackageExamples.{InstanceTypeExamples, HashTypeExamples, ThreadTypeExamples}

pub instance_type_examples : InstanceTypeExamples
unfolding str.chars str.is_utf8 lib.Utf8.encode fmt.digits
instance_type_examples = record {
  method_called = refl;
  constructor_called = refl;
  nothing_returned = refl;
  called_as_a_statement = refl;
}

pub hash_type_examples : HashTypeExamples
unfolding str.chars str.is_utf8 lib.Utf8.encode fmt.digits
hash_type_examples = record { found = refl }

pub thread_type_examples : ThreadTypeExamples
unfolding str.chars str.is_utf8 lib.Utf8.encode fmt.digits
thread_type_examples = record {
  parameters_set = refl;
  setting_as_a_value = refl;
  read_from = refl;
}
