-- The instructions of all bodies of a program, one behind the other, and where their jumps lead.
use Rattle.std.specs.Prelude.{◌≡◌, ℕ, ◌+◌, ◌<◌, List, [], ◌∷◌, ◌++◌, length, slice_get, Some}
use Rattle.ds2_meaning.specs.Method.{MethodTree}
use Rattle.ds2_meaning.specs.ProgramTree.{BodyTree}
use Rattle.ds2_code.specs.declared.instr.Instr.{Instr}
use Rattle.ds2_code.specs.declared.instr.Instr.TheVariants as instr
use Rattle.ds2_code.specs.declared.parts.MethodPart.{MethodPart}
use Rattle.ds2_code.specs.declared.parts.ProgramParts.{ProgramParts}
use Rattle.ds2_code.specs.CodeBound.{HasBoundedJumps, StaysInList}
use Rattle.ds2_gen.specs.ExpressionCode.{CodeNumbers}
use Rattle.ds2_gen.specs.MethodCode.{method_code}
use Rattle.ds2_gen.specs.StatementCode.{outputs_code}
use Rattle.ds2_gen.specs.UnitCode.{body_code}

-- a body of code: a system method with the outputs that it writes to at its end, or a declared method
pub data CodeBody : Type 0 where
  OfSystem : CodeNumbers → BodyTree → (written : List ℕ) → CodeBody
  OfMethod : CodeNumbers → MethodTree → CodeBody

-- the instructions of a body that begins at a number
abbrev pub code_of_body : ℕ → CodeBody → List Instr
code_of_body at (OfSystem numbers body written) = body_code numbers at body (outputs_code written ++ instr.End ∷ [])
code_of_body at (OfMethod numbers method) = method_code numbers at method

-- the instructions of bodies, one behind the other
abbrev pub bodies_code : ℕ → List CodeBody → List Instr
bodies_code at [] = []
bodies_code at (b ∷ bodies) = code_of_body at b ++ bodies_code (at + length (code_of_body at b)) bodies

-- the entries of methods lie in the list
abbrev pub HasEntriesInside : ProgramParts → Type 0
HasEntriesInside code = (k : ℕ) (method : MethodPart) → slice_get code.methods k ≡ Some method → method.entry < length code.instrs

-- in code that is made of bodies each jump goes forward, or to where a step of the budget begins, and no run leaves the list
abbrev pub BodiesStayInList : Type 0
BodiesStayInList = (code : ProgramParts) (bodies : List CodeBody) → code.instrs ≡ bodies_code 0 bodies → HasEntriesInside code → HasBoundedJumps code.instrs × StaysInList code
