-- The clauses of valid code that hold of the code of every typed program.
use Rattle.std.specs.Prelude.{IsTrue}
use Rattle.ds2_meaning.specs.IsTyped.{IsTypedUnit}
use Rattle.ds2_meaning.specs.ProgramTree.{UnitTree}
use Rattle.ds2_code.specs.declared.parts.ProgramParts.{ProgramParts}
use Rattle.ds2_code.specs.CodeBound.{HasBoundedJumps}
use Rattle.ds2_code.specs.ValidCode.{parts_in_range, outputs_differ}
use Rattle.ds2_program_code.specs.ProgramCode.{program_code}

-- each number beside the instructions names a part that is there, two outputs have different names, and a jump that does not go forward goes
-- to where a step of the budget begins
pub record HasValidParts (code : ProgramParts) : Type 0 where
  pub ranges : IsTrue (parts_in_range code)
  pub outputs : IsTrue (outputs_differ code)
  pub steps : HasBoundedJumps code.instrs

-- so it is in the code of each typed program
abbrev pub TypedProgramsHaveValidParts : Type 0
TypedProgramsHaveValidParts = (p : UnitTree) → IsTypedUnit p → HasValidParts (program_code p)
