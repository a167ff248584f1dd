-- What is proved of the code of a typed program.
use Rattle.std.specs.Prelude.{ℕ, slice_get, Option, Some, None}
use Rattle.ds2_meaning.specs.IsTyped.{IsTypedUnit}
use Rattle.ds2_meaning.specs.Location.{Home}
use Rattle.ds2_meaning.specs.Method.{MethodTree}
use Rattle.ds2_meaning.specs.ProgramTree.{UnitTree, methods_of}
use Rattle.ds2_gen.specs.ExpressionCode.{CodeNumbers}
use Rattle.ds2_gen.specs.UnitTheorem.{IsCodeOfUnits, KeepsMeaning}
use Rattle.ds2_program_code.specs.ProgramCode.{init_numbers, run_numbers, term_numbers, method_numbers, program_code}

-- what the code of the method of a home finds fixed; of one that is not there, which no code calls, what that of `init` finds
abbrev pub numbers_of_listed : UnitTree → Home → Option MethodTree → CodeNumbers
numbers_of_listed p home None = init_numbers p
numbers_of_listed p home (Some method) = method_numbers p (record { home = home; method = method })

-- likewise of the method of a home by its number there
abbrev pub declared_numbers : UnitTree → Home → ℕ → CodeNumbers
declared_numbers p home k = numbers_of_listed p home (slice_get (methods_of p home) k)

-- the code of a typed program has all that the theorem of the generator asks for: the code of each body stands at its entry, every name
-- has its place, roles and outputs are those of the program, and runs end
abbrev pub TypedProgramsHaveCode : Type 0
TypedProgramsHaveCode = (p : UnitTree) → IsTypedUnit p → IsCodeOfUnits (program_code p) p (init_numbers p) (run_numbers p) (term_numbers p) (declared_numbers p)

-- the code of a typed program does what the program means: for every budget, load and data that holds a state, each unit ends with the
-- meaning's rows, lines, way, place and budget left, by its fault where there is one, and after a normal end with its state
abbrev pub TypedProgramsKeepMeaning : Type 0
TypedProgramsKeepMeaning = (p : UnitTree) → IsTypedUnit p → KeepsMeaning (program_code p) p (init_numbers p) (run_numbers p) (term_numbers p)
