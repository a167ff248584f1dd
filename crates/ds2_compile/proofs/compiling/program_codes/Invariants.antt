use Rattle.std.proofs.Common.{◌≡◌, ◌++◌, drop}
use Rattle.std.specs.Prelude.{map}
use Rattle.std.specs.List.{AllByRecursion}
use Rattle.ds2_meaning.specs.View.{typed_data_program}
use Rattle.ds2_meaning.specs.declared.units.TypedData.{TypedData}
use Rattle.ds2_code.specs.ValidCode.{IsValidStaged}
use Rattle.ds2_same_meaning.specs.SameAnswer.{staged_code}
use Rattle.ds2_compile.proofs.compiling.program_codes.Given as goal

abbrev pub invariant-programs : goal.invariant-programs
invariant-programs l =
    (l.codes ++ map (λ (d : TypedData). staged_code (typed_data_program d)) (drop l.program-index l.programs) ≡ map (λ (d : TypedData). staged_code (typed_data_program d)) l.programs)
    × AllByRecursion IsValidStaged l.codes
