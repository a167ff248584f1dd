-- Before its first unit the data of a typed program's code hold what the program opens with.
use Rattle.std.specs.Prelude.{List, length, map}
use Rattle.ds2_value.specs.Row.{Row}
use Rattle.ds2_value.specs.declared.value.Value.{Value}
use Rattle.ds2_meaning.specs.IsTyped.{IsTypedUnit}
use Rattle.ds2_meaning.specs.ProgramMeaning.{opening_of}
use Rattle.ds2_meaning.specs.ProgramTree.{UnitTree}
use Rattle.ds2_meaning.specs.Reading.{TableRows}
use Rattle.ds2_meaning.specs.TableLaws.{tables_at_opening}
use Rattle.ds2_code.specs.CodeUnit.{opening_data}
use Rattle.ds2_program_code.specs.PlacedProgram.{parameter_locations}
use Rattle.ds2_program_code.specs.ProgramCode.{program_code}
use Rattle.ds2_program_code.specs.ProgramRuns.{HoldsProgram}

-- the rows of the tables with which a program's hash objects begin, in the order of the objects
abbrev pub opening_tables : UnitTree → TableRows → List (List Row)
opening_tables p tables = map tables (tables_at_opening p)

-- the data before the first unit hold what the program opens with over these tables, with these values of its parameters
abbrev pub TypedProgramsOpenAlike : Type 0
TypedProgramsOpenAlike =
    (p : UnitTree) (tables : TableRows) (values : List Value) → IsTypedUnit p
    → HoldsProgram p (opening_of p tables values) (opening_data (program_code p) values (opening_tables p tables) (length (parameter_locations p)))
