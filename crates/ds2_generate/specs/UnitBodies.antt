-- Code to which the bodies of a program are appended.
use Rattle.std.specs.Prelude.{◌≡◌, ℕ, List, ◌++◌, length, map, Some, None}
use Rattle.ds2_meaning.specs.ProgramTree.{InstanceTree, UnitTree}
use Rattle.ds2_meaning.specs.View.{unit_tree}
use Rattle.ds2_layout.specs.Layout.{program_slots}
use Rattle.ds2_code.specs.declared.instr.Instr.{Instr}
use Rattle.ds2_code.specs.declared.parts.MethodPart.{MethodPart}
use Rattle.ds2_gen.specs.BodyCode.{bodies_code}
use Rattle.ds2_program_code.specs.CodeMethods.{CodeMethod, methods_at}
use Rattle.ds2_program_code.specs.ProgramCode.{code_constants, method_body, method_parts}
use Rattle.ds2_generate.specs.declared.unit.Unit.{Unit}

-- the program as its meaning sees it, but for the name that it has as a thread program
abbrev pub tree_of_unit : Unit → UnitTree
tree_of_unit u = unit_tree None u.parameters.now u.program.now

-- slots and constants are those of the program
pub record IsLaidOut (u : Unit) : Type 0 where
  pub slots : u.slots.now ≡ program_slots (tree_of_unit u)
  pub constants : u.constants.now ≡ code_constants (tree_of_unit u)

-- the code of declared methods, one behind the other
unfoldable pub with_declared : UnitTree → List CodeMethod → List Instr → List Instr
with_declared p methods code = code ++ bodies_code (length code) (map (method_body p) methods)

-- the parts of declared methods whose code begins at a number
unfoldable pub with_method_parts : UnitTree → ℕ → List CodeMethod → List MethodPart → List MethodPart
with_method_parts p at methods parts = parts ++ method_parts p at methods

-- the methods of an instance in code
abbrev pub instance_code_methods : InstanceTree → List CodeMethod
instance_code_methods i = methods_at (Some i.name) i.methods
