-- What a text becomes: its tokens stand in order, so that what its source becomes is typed.
use Rattle.std.specs.Prelude.{◌≡◌, ◌<◌, ◌+◌, ◌^◌, List, length, Ok}
use Rattle.std.specs.List.{AllByRecursion}
use Rattle.ds2_base.specs.Bytes.{Bytes}
use Rattle.ds2_token.specs.Standing.{StandsFor}
use Rattle.ds2_token.specs.declared.token.Token.{Token}
use Rattle.ds2_tree.specs.Units.{SourcePart, source_spelling, IsSource}
use Rattle.ds2_meaning.specs.IsTyped.{IsTypedDataProgram}
use Rattle.ds2_meaning.specs.ProgramTree.{ProgramTree}
use Rattle.ds2_names.specs.SourceUnit.{TableColumns}
use Rattle.ds2_elaboration.specs.Elaboration.{elaborated_source}
use Rattle.ds2_elaboration.specs.TypedPrograms.{StandInOrder, HaveSchemas}

-- the tokens that stand for a text stand in order; its lines and columns are counted up to 2 ^ 32 - 1, so it has fewer bytes
abbrev pub TokensStandInOrder : Type 0
TokensStandInOrder = (text : Bytes) (tokens : List Token) → length text + 1 < 2 ^ 32 → StandsFor text tokens → StandInOrder tokens

-- what a text becomes whose tokens are a source is typed data programs, where it is not refused
abbrev pub EveryTextIsTyped : Type 0
EveryTextIsTyped = (tables : TableColumns) (text : Bytes) (parts : List SourcePart) (programs : List ProgramTree) → HaveSchemas tables
    → length text + 1 < 2 ^ 32 → StandsFor text (source_spelling parts) → IsSource parts
    → elaborated_source tables parts ≡ Ok programs → AllByRecursion IsTypedDataProgram programs
