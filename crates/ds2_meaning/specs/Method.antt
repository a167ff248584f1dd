-- Methods, as plain data, and the locals with which one begins.
use Rattle.std.specs.Prelude.{ℕ, if◌then◌else◌, List, [], ◌∷◌, Option}
use Rattle.ds2_value.specs.declared.ty.Ty.{Ty}
use Rattle.ds2_value.specs.declared.value.Value.{Value}
use Rattle.ds2_meaning.specs.declared.globals.Variable.{Variable}
use Rattle.ds2_meaning.specs.declared.methods.Parameter.{Parameter}
use Rattle.ds2_meaning.specs.HashObjects.{DeclaredObjects}
use Rattle.ds2_meaning.specs.Location.{Home}
use Rattle.ds2_meaning.specs.TypedStatement.{TypedStatements}
use Rattle.ds2_meaning.specs.RunState.{Locals, no_locals, with_local}

-- a method: its name, its parameters and locals, the type that it returns where it returns a value, and its statements
pub record MethodTree : Type 0 where
  pub name : List ℕ
  pub parameters : List Parameter
  pub locals : List Variable
  pub returns : Option Ty
  pub body : TypedStatements

-- the methods of each home
abbrev pub Methods : Type 0
Methods = Home → List MethodTree

-- what the code of each home may call: methods, and hash objects with their iterators
pub record Declarations : Type 0 where
  pub methods : Methods
  pub objects : Home → DeclaredObjects

-- the parameters have the arguments' values, and every local is null
abbrev pub locals_at_entry : List Parameter → List Value → Locals
locals_at_entry [] values = no_locals
locals_at_entry (p ∷ ps) [] = no_locals
locals_at_entry (p ∷ ps) (v ∷ vs) = with_local p.name v (locals_at_entry ps vs)

-- the last values of the in_out parameters, in order
abbrev pub last_values : List Parameter → Locals → List Value
last_values [] locals = []
last_values (p ∷ ps) locals = if p.is_in_out then locals p.name ∷ last_values ps locals else last_values ps locals
