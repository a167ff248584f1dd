-- The declared methods of a program in the order of their code, and their numbers there.
use Rattle.std.specs.Prelude.{ℕ, ◌+◌, bytes_eq, if◌then◌else◌, List, [], ◌∷◌, ◌++◌, length, map, flat_map, slice_get, Option, Some, None, is_some}
use Rattle.std.specs.Option.{option_map}
use Rattle.ds2_meaning.specs.Location.{Home}
use Rattle.ds2_meaning.specs.Method.{MethodTree}
use Rattle.ds2_meaning.specs.ProgramTree.{InstanceTree, UnitTree, methods_of}
use Rattle.ds2_gen.specs.ExpressionCode.{Callee}

-- a method, and the home that declares it
pub record CodeMethod : Type 0 where
  pub home : Home
  pub method : MethodTree

-- the methods of a home
abbrev pub methods_at : Home → List MethodTree → List CodeMethod
methods_at home methods = map (λ (m : MethodTree). record { home = home; method = m }) methods

-- the methods of a program, its own before those of its instances
abbrev pub code_methods : UnitTree → List CodeMethod
code_methods p = methods_at None p.methods ++ flat_map (λ (i : InstanceTree). methods_at (Some i.name) i.methods) p.instances

-- the number of the first method of the instance of this name, where so many methods stand before those of these instances
abbrev pub first_of_instance : ℕ → List InstanceTree → List ℕ → ℕ
first_of_instance before [] name = before
first_of_instance before (i ∷ instances) name = if bytes_eq i.name name then before else first_of_instance (before + length i.methods) instances name

-- the number of the first method of a home
abbrev pub first_method_of : UnitTree → Home → ℕ
first_method_of p None = 0
first_method_of p (Some instance) = first_of_instance (length p.methods) p.instances instance

-- a method of a home, by its number there, as code calls it
abbrev pub callee_of : UnitTree → Home → ℕ → Option Callee
callee_of p home k = option_map (λ (m : MethodTree). record { number = first_method_of p home + k; has_result = is_some m.returns }) (slice_get (methods_of p home) k)
