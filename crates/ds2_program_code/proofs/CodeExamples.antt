-- The code of the examples, computed.
use Rattle.std.proofs.Common.{refl}
use Rattle.std.specs.Str as str
use Rattle.ds2_program_code.specs.ProgramCodeExamples.{ProgramCodeExamples}

pub program_code_examples : ProgramCodeExamples
unfolding str.chars
program_code_examples = record { method_and_kept_value = refl; tables_and_hash_object = refl; instances = refl }
