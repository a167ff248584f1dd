-- Constants that join a table in the order of their use.
use Rattle.std.specs.Prelude.{List, [], ◌∷◌, ◌++◌, Option, Some, None}
use Rattle.std.specs.List.{fold}
use Rattle.ds2_meaning.specs.TypedStatement.{TypedStatement}
use Rattle.ds2_program_code.specs.UsedConstants.{UsedConstant, constants_used, constants_of_statement}
use Rattle.ds2_program_code.specs.CodeConstants.{with_used_constant}
use Rattle.ds2_statement_emitter.specs.Appending.{IfPart}

-- a table with these constants, each of which joins it unless it stands there
unfoldable pub with_used : List UsedConstant → List UsedConstant → List UsedConstant
with_used used table = fold with_used_constant table used

-- the constants of the rest of a chain of `if` and `else if`, behind its first part
abbrev pub constants_of_rest : List IfPart → Option TypedStatement → List UsedConstant
constants_of_rest [] None = []
constants_of_rest [] (Some s) = constants_of_statement s
constants_of_rest (p ∷ ps) o = constants_used p.condition ++ (constants_of_statement p.on ++ constants_of_rest ps o)
