-- The examples of refusals of names.
use Rattle.std.proofs.Common.{refl}
use Rattle.ds2_names.specs.NameExamples.{NameExamples}

pub name_examples : NameExamples
name_examples = record {
  taken = refl;
  taken_in_any_case = refl;
  first_of_two = refl;
  first_kind = refl;
  leave_outside_of_loops = refl;
}
