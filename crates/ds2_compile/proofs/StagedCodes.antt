-- Code that was made of a program is that of the definition.
use Rattle.std.proofs.Common.{◌≡◌, List, [], ◌∷◌, ◌++◌, map, Some, refl, sym, ap, subst, ◌∙◌, append_assoc}
use Rattle.std.specs.List.{AllByRecursion}
use Rattle.std.specs.Option.{SomeIff}
use Rattle.ds2_meaning.specs.ProgramTree.{ProgramTree, OverTables, OverStage, reader_of}
use Rattle.ds2_meaning.specs.View.{typed_data_program}
use Rattle.ds2_meaning.specs.declared.units.TypedData.{TypedData}
use Rattle.ds2_code.specs.ValidCode.{IsValidStaged}
use Rattle.ds2_code.specs.declared.parts.StagedParts.{StagedParts}
use Rattle.ds2_generate.specs.Generated as generated
use Rattle.ds2_same_meaning.specs.ProgramCode.{program_code}
use Rattle.ds2_same_meaning.specs.SameAnswer.{code_of_stages, staged_code}

codes_are : (t : ProgramTree) → generated.codes_of t ≡ program_code (reader_of t) ∷ code_of_stages t
codes_are (OverTables p) = refl
codes_are (OverStage p stage) = ap (λ r. program_code p ∷ r) (codes_are stage)

pub staged_is : (t : ProgramTree) → generated.code_with_stages t ≡ staged_code t
staged_is (OverTables p) = refl
staged_is (OverStage p stage) = λ i. record { program = program_code p; stages = codes_are stage i }

pub made_is : (t : ProgramTree) (code : StagedParts) → SomeIff (Some code) (IsValidStaged (generated.code_with_stages t)) (generated.code_with_stages t) → code ≡ staged_code t
made_is t code made = made.1 ∙ staged_is t

pub made_is_valid : (t : ProgramTree) (code : StagedParts) → SomeIff (Some code) (IsValidStaged (generated.code_with_stages t)) (generated.code_with_stages t) → IsValidStaged code
made_is_valid t code made = subst IsValidStaged (sym made.1) made.0

-- valid codes and one more
pub valid_pushed : (codes : List StagedParts) (code : StagedParts) → AllByRecursion IsValidStaged codes → IsValidStaged code → AllByRecursion IsValidStaged (codes ++ code ∷ [])
valid_pushed [] code all valid = (valid, tt)
valid_pushed (c ∷ codes) code all valid = (all.0, valid_pushed codes code all.1 valid)

-- the code of one program more
abbrev pub code_of_typed : TypedData → StagedParts
code_of_typed d = staged_code (typed_data_program d)

pub code_pushed : (codes next : List StagedParts) (code : StagedParts) (d : TypedData) (left rest : List TypedData) (whole : List StagedParts) → left ≡ d ∷ rest
    → next ≡ codes ++ code ∷ [] → code ≡ code_of_typed d → codes ++ map code_of_typed left ≡ whole → next ++ map code_of_typed rest ≡ whole
code_pushed codes next code d left rest whole first next_is code_is so_far =
    ap (λ xs. xs ++ map code_of_typed rest) next_is
    ∙ append_assoc codes (code ∷ []) (map code_of_typed rest)
    ∙ ap (λ x. codes ++ x ∷ map code_of_typed rest) code_is
    ∙ ap (λ ds. codes ++ map code_of_typed ds) (sym first)
    ∙ so_far
