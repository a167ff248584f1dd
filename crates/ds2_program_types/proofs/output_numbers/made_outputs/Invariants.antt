use Rattle.std.proofs.Common.{◌≡◌, ℕ, ◌+◌, List, drop, length}
use Rattle.std.specs.Prelude.{nat_eq}
use Rattle.std.specs.Cmp.Lexicographic.{pointwise}
use Rattle.std.specs.HashMap.{get}
use Rattle.std.specs.Option.{option_or}
use Rattle.ds2_program_types.proofs.OutputForms.{number_from}
use Rattle.ds2_program_types.specs.MadeOutputs.{names_made}
use Rattle.ds2_program_types.proofs.output_numbers.made_outputs.Given as goal

abbrev pub invariant-outputs : goal.invariant-outputs
invariant-outputs l =
    ((name : List ℕ) → option_or (get (pointwise nat_eq) l.numbers name) (number_from l.count (names_made (drop l.o-index l.outputs)) name) ≡ number_from 0 (names_made l.outputs) name)
    × (l.count + length (names_made (drop l.o-index l.outputs)) ≡ length (names_made l.outputs))
