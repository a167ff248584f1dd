-- What is known of calls on instances from the units that stand before one.
use Rattle.std.specs.Prelude.{◌≡◌, ℕ, Bool, nat_eq, List, length, Option}
use Rattle.std.specs.Cmp.Lexicographic.{pointwise}
use Rattle.std.specs.HashMap.{HashMap, get}
use Rattle.std.specs.Option.{option_map}
use Rattle.ds2_names.specs.SourceUnit.{KnownUnit, KnownPackage, KnownThread, package_named, thread_named}
use Rattle.ds2_calls.specs.MethodFlags.{MethodParameters, parameters_by_name}
use Rattle.ds2_calls.specs.declared.known_calls.KnownCalls.{KnownCalls}

-- what is known of units by their names: the methods of a package, and how many parameters a thread program has
pub record UnitsByName : Type 0 where
  pub methods_of_package : List ℕ → Option MethodParameters
  pub parameters_of_thread : List ℕ → Option ℕ

-- what these units tell
abbrev pub units_known : List KnownUnit → UnitsByName
units_known known = record {
  methods_of_package = λ name. option_map (λ (p : KnownPackage). parameters_by_name p.methods) (package_named known name);
  parameters_of_thread = λ name. option_map (λ (t : KnownThread). length t.parameters) (thread_named known name);
}

-- what a table of methods tells by their names
abbrev pub methods_in_table : {S : Type 0} → HashMap (List ℕ) (List Bool) S → MethodParameters
methods_in_table table = get (pointwise nat_eq) table

-- what tables tell
abbrev pub units_in_tables : KnownCalls → UnitsByName
units_in_tables k = record {
  methods_of_package = λ name. option_map methods_in_table (get (pointwise nat_eq) k.packages name);
  parameters_of_thread = get (pointwise nat_eq) k.threads;
}

-- tables tell what units tell
pub record KnowsCalls (k : KnownCalls) (known : List KnownUnit) : Type 0 where
  pub packages : (name : List ℕ) → (units_in_tables k).methods_of_package name ≡ (units_known known).methods_of_package name
  pub threads : (name : List ℕ) → (units_in_tables k).parameters_of_thread name ≡ (units_known known).parameters_of_thread name
