-- The codes of typed programs.
use Rattle.std.specs.Prelude.{◌≡◌, List, map}
use Rattle.ds2_meaning.specs.View.{typed_data_program}
use Rattle.ds2_meaning.specs.declared.units.TypedData.{TypedData}
use Rattle.ds2_code.specs.declared.parts.StagedParts.{StagedParts}
use Rattle.ds2_same_meaning.specs.SameAnswer.{staged_code}

-- these are the codes of typed programs, one for each
abbrev pub AreCodesOf : List TypedData → List StagedParts → Type 0
AreCodesOf programs codes = codes ≡ map (λ (d : TypedData). staged_code (typed_data_program d)) programs
