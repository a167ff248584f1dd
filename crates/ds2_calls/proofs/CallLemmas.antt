-- What tables tell of the calls of a unit is what the definitions say of them.
use Rattle.std.proofs.Common.{◌≡◌, ℕ, List, [], length, Option, Some, None, refl, sym}
use Rattle.std.specs.Prelude.{is_some, unwrap_or}
use Rattle.std.specs.Option.{option_map, option_map_or}
use Rattle.std.proofs.lemmas.List.{length-map}
use Rattle.ds2_tree.specs.Globals.{Method}
use Rattle.ds2_tree.specs.declared.expressions.Callee.{Callee}
use Rattle.ds2_tree.specs.declared.expressions.Callee.TheVariants as callee
use Rattle.ds2_tree.specs.declared.globals.Parameter as source_parameter
use Rattle.ds2_names.specs.NameRules.{in_out_parameters, methods_of_sort, counts_of, method_counts, counts_on_instance, is_known_sort, is_known_thread, parameters_where}
use Rattle.ds2_names.specs.SourceUnit.{spelled_name, InstanceOf, AnyPackage, HashObject, HashIterator, AnyThread, SourceInstance, instance_named, KnownPackage, KnownThread, KnownUnit, package_named, thread_named, SourceNames}
use Rattle.ds2_names.specs.Uses.{method_named, in_out_of}
use Rattle.ds2_calls.specs.InstanceSorts.{sort_of, sort_if_any}
use Rattle.ds2_calls.specs.KnownUnits.{units_known, units_in_tables}
use Rattle.ds2_calls.specs.MethodFlags.{flags_of_method, parameters_by_name}
use Rattle.ds2_calls.specs.SortCalls.{counts_by, counts_of_parameters, parameters_under, is_known_by, is_known_stage, counts_on_sort, flags_on_sort, flags_by_names}
use Rattle.ds2_calls.specs.UnitsCalls.{calls_by_tables, calls_of_names, HasCalls}
use Rattle.ds2_calls.specs.declared.unit_calls.Calls.{Calls}

flags_of_first : (o : Option Method) → in_out_of o ≡ unwrap_or (flags_of_method o) []
flags_of_first None = refl
flags_of_first (Some m) = refl

counts_of_first : (o : Option Method) → method_counts o ≡ counts_of_parameters (flags_of_method o)
counts_of_first None = refl
counts_of_first (Some m) = let h = sym (length-map m.parameters.list (λ (p : source_parameter.Parameter). is_some p.in_out)) in λ i. Some (h i, h i)

pub counts_of_call : (o : Option Method) (name : List ℕ) → counts_of o name ≡ counts_by (flags_of_method o) name
counts_of_call None name = refl
counts_of_call (Some m) name = let h = sym (length-map m.parameters.list (λ (p : source_parameter.Parameter). is_some p.in_out)) in λ i. Some (h i, h i)

module _ (known : List KnownUnit) where
  package_there : (o : Option KnownPackage) → is_some o ≡ is_some (option_map (λ (p : KnownPackage). parameters_by_name p.methods) o)
  package_there None = refl
  package_there (Some p) = refl

  thread_there : (o : Option KnownThread) → is_some o ≡ is_some (option_map (λ (t : KnownThread). length t.parameters) o)
  thread_there None = refl
  thread_there (Some t) = refl

  -- whether what an instance is one of is known
  pub known_sort : (s : InstanceOf) → is_known_sort known s ≡ is_known_by (units_known known) (sort_of s)
  known_sort (AnyPackage package' arguments) = package_there (package_named known (spelled_name package'))
  known_sort (HashObject keys items table) = refl
  known_sort (HashIterator hash) = refl
  known_sort (AnyThread thread) = thread_there (thread_named known (spelled_name thread))

  pub known_stage : (s : InstanceOf) → is_known_thread known s ≡ is_known_stage (units_known known) (sort_of s)
  known_stage (AnyPackage package' arguments) = refl
  known_stage (HashObject keys items table) = refl
  known_stage (HashIterator hash) = refl
  known_stage (AnyThread thread) = thread_there (thread_named known (spelled_name thread))

  counts_in_package : (o : Option KnownPackage) (method : List ℕ)
      → method_counts (method_named (option_map_or (λ (p : KnownPackage). p.methods) o []) method)
      ≡ counts_of_parameters (parameters_under (option_map (λ (p : KnownPackage). parameters_by_name p.methods) o) method)
  counts_in_package None method = refl
  counts_in_package (Some p) method = counts_of_first (method_named p.methods method)

  counts_in_thread : (o : Option KnownThread) (method : List ℕ)
      → option_map_or (λ (t : KnownThread). parameters_where (length t.parameters) method) o None
      ≡ option_map_or (λ count. parameters_where count method) (option_map (λ (t : KnownThread). length t.parameters) o) None
  counts_in_thread None method = refl
  counts_in_thread (Some t) method = refl

  -- how many arguments its methods take
  pub counts_on : (s : InstanceOf) (method : List ℕ) → counts_on_instance known s method ≡ counts_on_sort (units_known known) (sort_of s) method
  counts_on (AnyPackage package' arguments) method = counts_in_package (package_named known (spelled_name package')) method
  counts_on (HashObject keys items table) method = refl
  counts_on (HashIterator hash) method = refl
  counts_on (AnyThread thread) method = counts_in_thread (thread_named known (spelled_name thread)) method

  flags_in_package : (o : Option KnownPackage) (method : List ℕ)
      → in_out_of (method_named (option_map_or (λ (p : KnownPackage). p.methods) o []) method)
      ≡ unwrap_or (parameters_under (option_map (λ (p : KnownPackage). parameters_by_name p.methods) o) method) []
  flags_in_package None method = refl
  flags_in_package (Some p) method = flags_of_first (method_named p.methods method)

  flags_on : (s : InstanceOf) (method : List ℕ) → in_out_of (method_named (methods_of_sort known s) method) ≡ flags_on_sort (units_known known) (Some (sort_of s)) method
  flags_on (AnyPackage package' arguments) method = flags_in_package (package_named known (spelled_name package')) method
  flags_on (HashObject keys items table) method = refl
  flags_on (HashIterator hash) method = refl
  flags_on (AnyThread thread) method = refl

  -- and which of them are for in_out parameters
  flags_if_any : (o : Option SourceInstance) (method : List ℕ)
      → in_out_of (method_named (option_map_or (λ (i : SourceInstance). methods_of_sort known i.sort) o []) method) ≡ flags_on_sort (units_known known) (sort_if_any o) method
  flags_if_any None method = refl
  flags_if_any (Some i) method = flags_on i.sort method

-- which parameters are in_out is what the methods of the unit and of its instances tell
pub flags_are : (names : SourceNames) (f : Callee) → in_out_parameters names f ≡ flags_by_names (calls_of_names names) f
flags_are names (callee.Function n) = flags_of_first (method_named names.methods (spelled_name n))
flags_are names (callee.Null keyword) = refl
flags_are names (callee.Method object dot method) = flags_if_any names.known (instance_named names.instances (spelled_name object)) (spelled_name method)

-- tables tell what the units before a unit tell
units_tell : (c : Calls) (names : SourceNames) → HasCalls c names → units_in_tables c.known.now ≡ units_known names.known
units_tell c names has = λ i. record {
  methods_of_package = λ name. has.of_units_before.packages name i;
  parameters_of_thread = λ name. has.of_units_before.threads name i;
}

-- tables tell what the definitions say of calls
pub calls_tell : (c : Calls) (names : SourceNames) → HasCalls c names → calls_by_tables c ≡ calls_of_names names
calls_tell c names has = λ i. record {
  method = λ name. has.of_unit.by_method name i;
  sort_of_instance = λ name. has.of_unit.by_instance name i;
  units = units_tell c names has i;
}
