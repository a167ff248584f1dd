-- Methods as the code of the checker names them, and their numbers.
use Rattle.std.specs.Prelude.{◌≡◌, ◌<◌, ℕ, List, ◌++◌, length, map, flat_map, Option, None, Some}
use Rattle.std.specs.List.{range_with_len}
use Rattle.ds2_meaning.specs.Location.{Home}
use Rattle.ds2_meaning.specs.ProgramTree.{InstanceTree, UnitTree}
use Rattle.ds2_locality.specs.Deeds.{MethodAt, is_same_method}
use Rattle.ds2_program_code.specs.PlacedProgram.{number_of_first}
use Rattle.ds2_deeds.specs.declared.methods.MethodName.{MethodName}
use Rattle.ds2_deeds.specs.NamedLocations.{code_home}

-- the method that is named
abbrev pub method_of_name : MethodName → MethodAt
method_of_name m = record { home = code_home m.home; number = m.number }

-- the methods that are named, in order
abbrev pub methods_named : List MethodName → List MethodAt
methods_named names = map method_of_name names

-- the number of a method among methods in order, where it is one of them
abbrev pub number_among_methods : List MethodAt → MethodAt → Option ℕ
number_among_methods methods m = number_of_first (is_same_method m) methods

-- so many methods of a home
abbrev pub home_methods : Home → ℕ → List MethodAt
home_methods home count = map (λ n. record { home = home; number = n }) (range_with_len 0 count)

-- the methods of a program, in order: its own, and then those of its instances
abbrev pub methods_in_order : UnitTree → List MethodAt
methods_in_order p = home_methods None (length p.methods) ++ flat_map (λ (i : InstanceTree). home_methods (Some i.name) (length i.methods)) p.instances

-- so many methods of the program itself have the numbers that they have there
abbrev pub AreOwnFirst : ℕ → List MethodAt → Type 0
AreOwnFirst own methods = (k : ℕ) → k < own → number_among_methods methods (record { home = None; number = k }) ≡ Some k
