-- What a declaration of an instance breaks, by tests on names.
use Rattle.std.specs.Prelude.{ℕ, Bool, false, not, nat_eq, if◌then◌else◌, is_some, length, List, [], ◌∷◌, ◌++◌, Option}
use Rattle.std.specs.List.{list_all}
use Rattle.std.specs.Option.{option_map, option_map_or}
use Rattle.ds2_base.specs.declared.place.Place.{Place}
use Rattle.ds2_token.specs.declared.token.Token.{Token}
use Rattle.ds2_tree.specs.declared.globals.Constant.{Constant}
use Rattle.ds2_names.specs.NameRules.{from_each, place_unless, may_be_global, is_settable_global, is_only_instance, is_hash_name, constructor_parameters, lacking_table, constant_place, handed_constants}
use Rattle.ds2_names.specs.SourceUnit.{TableColumns, SourceNames, spelled_name, spelled_text, InstanceOf, AnyPackage, HashObject, HashIterator, AnyThread, KnownUnit, package_named, thread_named}

-- tests on names: any global, or what may be a column; a global that may be set; an instance and no other global; a hash object; for each
-- parameter of the constructor of the package of a name whether it is in_out; and a thread program
pub record InstanceTests : Type 0 where
  pub is_global : List ℕ → Bool
  pub is_settable : List ℕ → Bool
  pub is_instance : List ℕ → Bool
  pub is_hash : List ℕ → Bool
  pub constructor : List ℕ → Option (List Bool)
  pub is_thread : List ℕ → Bool

-- the parameters of the constructor of the package of a name, where there is a package
abbrev pub constructor_flags : List KnownUnit → List ℕ → Option (List Bool)
constructor_flags known name = option_map constructor_parameters (package_named known name)

-- there is a thread program of a name
abbrev pub has_thread : List KnownUnit → List ℕ → Bool
has_thread known name = is_some (thread_named known name)

-- the tests that a unit's names give
abbrev pub tests_of_unit : SourceNames → InstanceTests
tests_of_unit names = record {
  is_global = may_be_global names;
  is_settable = is_settable_global names;
  is_instance = is_only_instance names;
  is_hash = is_hash_name names;
  constructor = constructor_flags names.known;
  is_thread = has_thread names.known;
}

-- the place of a name for which a test does not hold
abbrev pub place_unless_named : (List ℕ → Bool) → Token → List Place
place_unless_named test t = place_unless (test (spelled_name t)) t.place

-- the place of a name for which a test holds
abbrev pub place_if_test : (List ℕ → Bool) → Token → List Place
place_if_test test t = place_unless (not (test (spelled_name t))) t.place

-- a test holds for all these names
abbrev pub are_all : (List ℕ → Bool) → List Token → Bool
are_all test variables = list_all (λ (t : Token). test (spelled_name t)) variables

-- what a declaration of an instance names that is not there
abbrev pub unknown_by_tests : TableColumns → InstanceTests → InstanceOf → List Place
unknown_by_tests tables t (AnyPackage package' arguments) = place_unless (is_some (t.constructor (spelled_name package'))) package'.place
unknown_by_tests tables t (HashObject keys items table) = from_each (place_unless_named t.is_global) (keys ++ items) ++ lacking_table tables (keys ++ items) table
unknown_by_tests tables t (HashIterator hash) = place_unless (t.is_hash (spelled_text hash)) hash.place
unknown_by_tests tables t (AnyThread thread) = place_unless (t.is_thread (spelled_name thread)) thread.place

-- another number of constants than the constructor has parameters
abbrev pub wrong_constants : Place → List Constant → Option (List Bool) → List Place
wrong_constants place arguments flags = option_map_or (λ f. place_unless (nat_eq (length arguments) (length f)) place) flags []

-- likewise in a declaration of an instance at a place
abbrev pub wrong_by_tests : InstanceTests → Place → InstanceOf → List Place
wrong_by_tests t place (AnyPackage package' arguments) = wrong_constants place arguments (t.constructor (spelled_name package'))
wrong_by_tests t place (HashObject keys items table) = []
wrong_by_tests t place (HashIterator hash) = []
wrong_by_tests t place (AnyThread thread) = []

-- the constants for in_out parameters of a constructor, where there is one
abbrev pub constants_handed : List Constant → Option (List Bool) → List Place
constants_handed arguments flags = option_map_or (λ f. handed_constants f arguments) flags []

-- what is no variable in a declaration of an instance
abbrev pub not_variable_by_tests : InstanceTests → InstanceOf → List Place
not_variable_by_tests t (AnyPackage package' arguments) = constants_handed arguments (t.constructor (spelled_name package'))
not_variable_by_tests t (HashObject keys items table) = from_each (place_if_test t.is_instance) keys ++ from_each (place_unless_named t.is_settable) items
not_variable_by_tests t (HashIterator hash) = []
not_variable_by_tests t (AnyThread thread) = []

-- the next parameter is in_out
abbrev pub is_next_in_out : List Bool → Bool
is_next_in_out [] = false
is_next_in_out (flag ∷ flags) = flag

-- the parameters behind the next one
abbrev pub parameters_behind : List Bool → List Bool
parameters_behind [] = []
parameters_behind (flag ∷ flags) = flags

-- the place of a constant, where it is for an in_out parameter
abbrev pub constant_handed : Bool → Constant → List Place
constant_handed in_out c = if in_out then constant_place c ∷ [] else []
