-- What the statements of a body need beside their instructions.
use Rattle.std.specs.Prelude.{Bool, ◌||◌, false, List, [], ◌∷◌, ◌++◌, Option, Some, None}
use Rattle.ds2_value.specs.declared.ty.Ty.{Ty}
use Rattle.ds2_meaning.specs.TypedStatement.{TypedStatement, has_output}
use Rattle.ds2_program_code.specs.KeptTypes.{types_kept}
use Rattle.ds2_statement_emitter.specs.Appending.{IfPart}

-- types with further ones behind them
unfoldable pub with_types : List Ty → List Ty → List Ty
with_types more types = types ++ more

-- the types that the rest of a chain of `if` and `else if` keeps, behind its first part
abbrev pub types_of_rest : List IfPart → Option TypedStatement → List Ty
types_of_rest [] None = []
types_of_rest [] (Some s) = types_kept s
types_of_rest (p ∷ ps) o = types_kept p.on ++ types_of_rest ps o

-- whether a row is written in the rest of a chain, behind its first part
abbrev pub output_in_rest : List IfPart → Option TypedStatement → Bool
output_in_rest [] None = false
output_in_rest [] (Some s) = has_output s
output_in_rest (p ∷ ps) o = has_output p.on || output_in_rest ps o
