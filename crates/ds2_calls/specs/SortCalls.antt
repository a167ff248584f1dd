-- What calls take: how many arguments, and which of them for in_out parameters.
use Rattle.std.specs.Prelude.{ℕ, Bool, true, false, is_some, unwrap_or, length, List, [], Option, Some, None}
use Rattle.std.specs.Option.{option_map_or}
use Rattle.ds2_tree.specs.declared.expressions.Callee.{Callee}
use Rattle.ds2_tree.specs.declared.expressions.Callee.TheVariants as callee
use Rattle.ds2_names.specs.Functions.{function_counts}
use Rattle.ds2_names.specs.NameRules.{hash_calls, iterator_calls, none_where, parameters_where}
use Rattle.ds2_names.specs.SourceUnit.{spelled_name}
use Rattle.ds2_calls.specs.InstanceSorts.{SortsByName}
use Rattle.ds2_calls.specs.KnownUnits.{UnitsByName}
use Rattle.ds2_calls.specs.MethodFlags.{MethodParameters}
use Rattle.ds2_calls.specs.declared.instances.Sort.{Sort}
use Rattle.ds2_calls.specs.declared.instances.Sort.TheVariants as sort

-- the numbers of arguments that what a name calls takes: a method with these parameters, else a function
abbrev pub counts_by : Option (List Bool) → List ℕ → Option (ℕ × ℕ)
counts_by (Some flags) name = Some (length flags, length flags)
counts_by None name = function_counts name

-- as many arguments as parameters, where there is a method
abbrev pub counts_of_parameters : Option (List Bool) → Option (ℕ × ℕ)
counts_of_parameters None = None
counts_of_parameters (Some flags) = Some (length flags, length flags)

-- the parameters of a method of a package, where there are both
abbrev pub parameters_under : Option MethodParameters → List ℕ → Option (List Bool)
parameters_under None method = None
parameters_under (Some methods) method = methods method

-- what an instance is one of is known
abbrev pub is_known_by : UnitsByName → Sort → Bool
is_known_by units (sort.Package name) = is_some (units.methods_of_package name)
is_known_by units (sort.Hash variables) = true
is_known_by units (sort.Iterator hash) = true
is_known_by units (sort.Thread name) = is_some (units.parameters_of_thread name)

-- an instance is one of a known thread program
abbrev pub is_known_stage : UnitsByName → Sort → Bool
is_known_stage units (sort.Package name) = false
is_known_stage units (sort.Hash variables) = false
is_known_stage units (sort.Iterator hash) = false
is_known_stage units (sort.Thread name) = is_some (units.parameters_of_thread name)

-- the numbers of arguments that a method of an instance takes, where it has one
abbrev pub counts_on_sort : UnitsByName → Sort → List ℕ → Option (ℕ × ℕ)
counts_on_sort units (sort.Package name) method = counts_of_parameters (parameters_under (units.methods_of_package name) method)
counts_on_sort units (sort.Hash variables) method = none_where hash_calls method
counts_on_sort units (sort.Iterator hash) method = none_where iterator_calls method
counts_on_sort units (sort.Thread name) method = option_map_or (λ count. parameters_where count method) (units.parameters_of_thread name) None

-- for each parameter of a method of an instance whether it is in_out: packages alone have such methods
abbrev pub flags_on_sort : UnitsByName → Option Sort → List ℕ → List Bool
flags_on_sort units None method = []
flags_on_sort units (Some (sort.Package name)) method = unwrap_or (parameters_under (units.methods_of_package name) method) []
flags_on_sort units (Some (sort.Hash variables)) method = []
flags_on_sort units (Some (sort.Iterator hash)) method = []
flags_on_sort units (Some (sort.Thread name)) method = []

-- what calls may mean by the names in them: the methods of the unit, its instances, and the units before it
pub record CallsByName : Type 0 where
  pub method : MethodParameters
  pub sort_of_instance : SortsByName
  pub units : UnitsByName

-- for each parameter of what is called whether it is in_out
abbrev pub flags_by_names : CallsByName → Callee → List Bool
flags_by_names calls (callee.Function n) = unwrap_or (calls.method (spelled_name n)) []
flags_by_names calls (callee.Null keyword) = []
flags_by_names calls (callee.Method object dot method) = flags_on_sort calls.units (calls.sort_of_instance (spelled_name object)) (spelled_name method)
