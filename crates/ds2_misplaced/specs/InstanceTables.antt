-- Tables of a unit's globals, and the tests that these make.
use Rattle.std.specs.Prelude.{◌≡◌, ℕ, Bool, true, false, not, ◌&&◌, ◌||◌, nat_eq, is_some, unwrap_or, List, [], Option, Some, None}
use Rattle.std.specs.Cmp.Lexicographic.{pointwise}
use Rattle.std.specs.HashSet.{contains}
use Rattle.std.specs.Option.{option_map}
use Rattle.ds2_calls.specs.KnownUnits.{units_in_tables}
use Rattle.ds2_calls.specs.MethodFlags.{MethodParameters}
use Rattle.ds2_calls.specs.UnitsCalls.{calls_by_tables}
use Rattle.ds2_calls.specs.declared.instances.Sort.{Sort}
use Rattle.ds2_calls.specs.declared.instances.Sort.TheVariants as sort
use Rattle.ds2_names.specs.NameRules.{columns_are_known}
use Rattle.ds2_names.specs.SourceUnit.{SourceNames, names_alone, vector_names, instance_names}
use Rattle.ds2_scope.specs.NameSets.{HasNames}
use Rattle.ds2_misplaced.specs.InstanceTests.{InstanceTests}
use Rattle.ds2_misplaced.specs.declared.tables.GlobalTables.{GlobalTables}
use Rattle.ds2_misplaced.specs.declared.tables.InstanceScope.{InstanceScope}

-- tables of a unit's globals
pub record AreGlobalTables (t : GlobalTables) (names : SourceNames) : Type 0 where
  pub variables : HasNames t.variables (names_alone (vector_names names))
  pub parameters : HasNames t.parameters (names_alone names.parameters)
  pub flags : HasNames t.flags (names_alone names.flags)
  pub instances : HasNames t.instances (names_alone (instance_names names))
  pub is_open : t.is_open ≡ not (columns_are_known names)

-- a global may be set, by what it is: a variable, a parameter, a flag, an instance, or where columns are not known
abbrev pub may_set : (variable parameter flag instance' open' : Bool) → Bool
may_set variable parameter flag instance' open' = variable || (parameter || (open' && (not flag && not instance')))

-- a name is that of a hash object
abbrev pub is_hash_object : Option Sort → Bool
is_hash_object (Some (sort.Hash variables)) = true
is_hash_object _ = false

-- the parameters of the constructor among the methods of the package of a name
abbrev pub constructor_among : Option MethodParameters → List ℕ → Option (List Bool)
constructor_among methods name = option_map (λ (m : MethodParameters). unwrap_or (m name) []) methods

-- the tests that tables make
abbrev pub tests_in_tables : InstanceScope → InstanceTests
tests_in_tables s =
    let t = s.globals.now in record {
      is_global = λ name. contains (pointwise nat_eq) t.variables name || (contains (pointwise nat_eq) t.parameters name || (contains (pointwise nat_eq) t.flags name || (contains (pointwise nat_eq) t.instances name || t.is_open)));
      is_settable = λ name. may_set (contains (pointwise nat_eq) t.variables name) (contains (pointwise nat_eq) t.parameters name) (contains (pointwise nat_eq) t.flags name) (contains (pointwise nat_eq) t.instances name) t.is_open;
      is_instance = λ name. contains (pointwise nat_eq) t.instances name && not (contains (pointwise nat_eq) t.variables name || (contains (pointwise nat_eq) t.parameters name || contains (pointwise nat_eq) t.flags name));
      is_hash = λ name. is_hash_object ((calls_by_tables s.calls.now).sort_of_instance name);
      constructor = λ name. constructor_among ((units_in_tables s.calls.now.known.now).methods_of_package name) name;
      is_thread = λ name. is_some ((units_in_tables s.calls.now.known.now).parameters_of_thread name);
    }
