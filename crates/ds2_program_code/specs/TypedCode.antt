-- The code of a typed program has operand types along its list.
use Rattle.std.specs.Prelude.{◌≡◌, IsTrue, ℕ, List, slice_get, Option, Some}
use Rattle.std.specs.List.{AllByRecursion}
use Rattle.ds2_value.specs.Types.{in_bounds}
use Rattle.ds2_value.specs.declared.ty.Ty.{Ty}
use Rattle.ds2_meaning.specs.declared.globals.Variable.{Variable}
use Rattle.ds2_meaning.specs.declared.location.Global.TheVariants.{Parameter}
use Rattle.ds2_meaning.specs.IsTyped.{thread_parameters, IsTypedUnit}
use Rattle.ds2_meaning.specs.Location.{Home}
use Rattle.ds2_meaning.specs.Method.{MethodTree}
use Rattle.ds2_meaning.specs.ProgramTree.{UnitTree, methods_of}
use Rattle.ds2_code.specs.ValidCode.{CodePoint, HasOperandTypes}
use Rattle.ds2_program_code.specs.PlacedProgram.{program_cell}
use Rattle.ds2_program_code.specs.TypedRuns.{IsTypedParameter, AllPutsAreShort}
use Rattle.ds2_program_code.specs.ProgramCode.{program_code}

-- a program within limits: no `put` has more than 1,000,000 items, and the type of each result is in bounds
pub record FitsCodeLimits (p : UnitTree) : Type 0 where
  pub init : AllPutsAreShort p.init.statements
  pub run : AllPutsAreShort p.run.statements
  pub term : AllPutsAreShort p.term.statements
  pub methods : (home : Home) (k : ℕ) (method : MethodTree) → slice_get (methods_of p home) k ≡ Some method → AllPutsAreShort method.body
  pub results : (home : Home) (k : ℕ) (method : MethodTree) (ty : Ty) → slice_get (methods_of p home) k ≡ Some method → method.returns ≡ Some ty → IsTrue (in_bounds ty)

-- the parameters of the instances of thread programs have their places among parameters of these types
abbrev pub StageParametersFit : UnitTree → List (Option Ty) → Type 0
StageParametersFit p parameters =
    (instance : List ℕ) (ps : List Variable) → thread_parameters p.threads instance ≡ Some ps
    → AllByRecursion (λ (v : Variable). IsTypedParameter parameters (program_cell p (record { home = Some instance; global = Parameter v.name })) v.ty) ps

-- the code of a typed program within limits has operand types along its list
abbrev pub TypedCodeHasTypes : Type 0
TypedCodeHasTypes =
    (p : UnitTree) (parameters : List (Option Ty)) → IsTypedUnit p → FitsCodeLimits p → StageParametersFit p parameters
    → (points : List CodePoint) × HasOperandTypes (program_code p) parameters points
