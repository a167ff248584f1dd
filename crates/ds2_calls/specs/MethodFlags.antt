-- Which parameters of methods are in_out, by the methods' names.
use Rattle.std.specs.Prelude.{◌≡◌, ℕ, Bool, nat_eq, bytes_eq, if◌then◌else◌, is_some, List, map, Option, Some, None}
use Rattle.std.specs.Cmp.Lexicographic.{pointwise}
use Rattle.std.specs.HashMap.{HashMap, get}
use Rattle.ds2_tree.specs.Globals.{Method}
use Rattle.ds2_tree.specs.declared.globals.Parameter as source_parameter
use Rattle.ds2_names.specs.SourceUnit.{spelled_name}
use Rattle.ds2_names.specs.Uses.{method_named, in_out_of}

-- for each parameter whether it is in_out
abbrev pub are_in_out : List source_parameter.Parameter → List Bool
are_in_out parameters = map (λ (p : source_parameter.Parameter). is_some p.in_out) parameters

-- for each parameter of a method whether it is in_out, where there is a method
abbrev pub flags_of_method : Option Method → Option (List Bool)
flags_of_method None = None
flags_of_method (Some m) = Some (in_out_of (Some m))

-- for each parameter of a method whether it is in_out, where the name is this one
abbrev pub flags_if_named : List ℕ → Method → Option (List Bool)
flags_if_named name m = if bytes_eq (spelled_name m.name) name then Some (in_out_of (Some m)) else None

-- for each name the parameters of a method
abbrev pub MethodParameters : Type 0
MethodParameters = List ℕ → Option (List Bool)

-- for each name the parameters of the first of these methods that has it
abbrev pub parameters_by_name : List Method → MethodParameters
parameters_by_name methods name = flags_of_method (method_named methods name)

-- a table has for each name the parameters of the first method of that name
abbrev pub HasMethods : {S : Type 0} → HashMap (List ℕ) (List Bool) S → List Method → Type 0
HasMethods table methods = (name : List ℕ) → get (pointwise nat_eq) table name ≡ parameters_by_name methods name
