-- The tests of tables are those of a unit's names, and the rules by tests are the rules.
use Rattle.std.proofs.Common.{◌≡◌, ℕ, Bool, true, false, not, ◌&&◌, ◌||◌, List, [], ◌∷◌, ◌++◌, length, nat_eq, bytes_eq, Option, Some, None, refl, sym, ap, ◌∙◌}
use Rattle.std.specs.Prelude.{if◌then◌else◌, is_some, unwrap_or, map}
use Rattle.std.specs.Option.{option_map, option_map_or}
use Rattle.std.proofs.lemmas.Slice.Eq.{bytes_eq-Decides}
use Rattle.ds2_base.specs.declared.place.Place.{Place}
use Rattle.ds2_tree.specs.Globals.{Method}
use Rattle.ds2_calls.specs.InstanceSorts.{sort_if_any}
use Rattle.ds2_calls.specs.MethodFlags.{MethodParameters, parameters_by_name, flags_of_method}
use Rattle.ds2_calls.specs.UnitsCalls.{HasCalls}
use Rattle.ds2_names.specs.NameRules.{from_each, place_unless, columns_are_known, may_be_global, is_settable_global, is_only_instance, is_hash, constructor_parameters, unknown_in_instance, wrong_constructor, not_variable_in_instance, handed_constants}
use Rattle.ds2_names.specs.SourceUnit.{TableColumns, PlacedName, is_named, SourceNames, vector_names, plain_globals, instance_names, all_globals, spelled_name, InstanceOf, AnyPackage, HashObject, HashIterator, AnyThread, SourceInstance, KnownPackage, KnownThread, KnownUnit, Packaged, Threaded, package_named, thread_named, instance_named}
use Rattle.ds2_names.specs.Uses.{method_named, in_out_of}
use Rattle.ds2_misplaced.specs.InstanceTests.{InstanceTests, tests_of_unit, constructor_flags, unknown_by_tests, wrong_by_tests, not_variable_by_tests}
use Rattle.ds2_misplaced.specs.InstanceTables.{AreGlobalTables, may_set, is_hash_object, constructor_among, tests_in_tables}
use Rattle.ds2_misplaced.specs.InstanceRules.{unknown_of, wrong_of, not_variable_of, unknown_in_instances, wrong_constructors, not_variable_in_instances}
use Rattle.ds2_misplaced.specs.declared.tables.InstanceScope.{InstanceScope}

-- ---- names in lists

or_assoc : (a b c : Bool) → ((a || b) || c) ≡ (a || (b || c))
or_assoc true b c = refl
or_assoc false b c = refl

named_append : (xs ys : List PlacedName) (name : List ℕ) → is_named (xs ++ ys) name ≡ (is_named xs name || is_named ys name)
named_append [] ys name = refl
named_append (x ∷ xs) ys name = ap (λ t. bytes_eq x.name name || t) (named_append xs ys name) ∙ sym (or_assoc (bytes_eq x.name name) (is_named xs name) (is_named ys name))

plain_is : (names : SourceNames) (name : List ℕ) → is_named (plain_globals names) name ≡ ((is_named (vector_names names) name || is_named names.parameters name) || is_named names.flags name)
plain_is names name =
    named_append (vector_names names ++ names.parameters) names.flags name ∙ ap (λ t. t || is_named names.flags name) (named_append (vector_names names) names.parameters name)

all_is : (names : SourceNames) (name : List ℕ)
    → is_named (all_globals names) name ≡ (((is_named (vector_names names) name || is_named names.parameters name) || is_named names.flags name) || is_named (instance_names names) name)
all_is names name = named_append (plain_globals names) (instance_names names) name ∙ ap (λ t. t || is_named (instance_names names) name) (plain_is names name)

-- ---- tests on globals

global_is : (v p f i k : Bool) → (v || (p || (f || (i || not k)))) ≡ ((((v || p) || f) || i) || (not k && not (((v || p) || f) || i)))
global_is true p f i k = refl
global_is false true f i k = refl
global_is false false true i k = refl
global_is false false false true k = refl
global_is false false false false true = refl
global_is false false false false false = refl

settable_is : (v p f i k : Bool) → may_set v p f i (not k) ≡ ((v || p) || (not k && not (((v || p) || f) || i)))
settable_is true p f i k = refl
settable_is false true f i k = refl
settable_is false false true i k = refl
settable_is false false false i k = refl

instance_is : (i v p f : Bool) → (i && not (v || (p || f))) ≡ (i && not ((v || p) || f))
instance_is i true p f = refl
instance_is i false p f = refl

hash_is : (o : Option SourceInstance) → is_hash_object (sort_if_any o) ≡ option_map_or (λ (i : SourceInstance). is_hash i.sort) o false
hash_is None = refl
hash_is (Some i) = by i.sort
  where
    by : (sort : InstanceOf) → is_hash_object (sort_if_any (Some (record i { sort = sort }))) ≡ is_hash sort
    by (AnyPackage package' arguments) = refl
    by (HashObject keys items table) = refl
    by (HashIterator hash) = refl
    by (AnyThread thread) = refl

flags_are : (o : Option Method) → unwrap_or (flags_of_method o) [] ≡ in_out_of o
flags_are None = refl
flags_are (Some m) = refl

-- the constructor of a package is its method of its own name
constructor_is : (known : List KnownUnit) (name : List ℕ)
    → constructor_among (option_map (λ (p : KnownPackage). parameters_by_name p.methods) (package_named known name)) name ≡ constructor_flags known name
constructor_is [] name = refl
constructor_is (Packaged p ∷ known) name = by (bytes_eq p.name name) refl (constructor_is known name)
  where
    by : (t : Bool) → bytes_eq p.name name ≡ t
        → constructor_among (option_map (λ (q : KnownPackage). parameters_by_name q.methods) (package_named known name)) name ≡ constructor_flags known name
        → constructor_among (option_map (λ (q : KnownPackage). parameters_by_name q.methods) (if t then Some p else package_named known name)) name
        ≡ option_map constructor_parameters (if t then Some p else package_named known name)
    by true e h = ap (λ o. Some o) (flags_are (method_named p.methods name) ∙ ap (λ n. in_out_of (method_named p.methods n)) (sym ((bytes_eq-Decides p.name name).0 e)))
    by false e h = h
constructor_is (Threaded t ∷ known) name = constructor_is known name

some_mapped : {A B : Type 0} (f : A → B) (x : Option A) → is_some (option_map f x) ≡ is_some x
some_mapped f None = refl
some_mapped f (Some a) = refl

-- the tests of tables are those of a unit's names
pub tests_are : (s : InstanceScope) (names : SourceNames) → AreGlobalTables s.globals.now names → HasCalls s.calls.now names → tests_in_tables s ≡ tests_of_unit names
tests_are s names h c = λ j. record {
  is_global = λ name. global name j;
  is_settable = λ name. settable name j;
  is_instance = λ name. instance' name j;
  is_hash = λ name. (ap is_hash_object (c.of_unit.by_instance name) ∙ hash_is (instance_named names.instances name)) j;
  constructor = λ name. (ap (λ m. constructor_among m name) (c.of_units_before.packages name) ∙ constructor_is names.known name) j;
  is_thread = λ name. (ap is_some (c.of_units_before.threads name) ∙ some_mapped (λ (t : KnownThread). length t.parameters) (thread_named names.known name)) j;
}
  where
    global : (name : List ℕ) → (tests_in_tables s).is_global name ≡ may_be_global names name
    global name =
        (λ i. h.variables name i || (h.parameters name i || (h.flags name i || (h.instances name i || h.is_open i))))
        ∙ global_is (is_named (vector_names names) name) (is_named names.parameters name) (is_named names.flags name) (is_named (instance_names names) name) (columns_are_known names)
        ∙ sym (λ i. all_is names name i || (not (columns_are_known names) && not (all_is names name i)))

    settable : (name : List ℕ) → (tests_in_tables s).is_settable name ≡ is_settable_global names name
    settable name =
        (λ i. may_set (h.variables name i) (h.parameters name i) (h.flags name i) (h.instances name i) (h.is_open i))
        ∙ settable_is (is_named (vector_names names) name) (is_named names.parameters name) (is_named names.flags name) (is_named (instance_names names) name) (columns_are_known names)
        ∙ sym (λ i. (is_named (vector_names names) name || is_named names.parameters name) || (not (columns_are_known names) && not (all_is names name i)))

    instance' : (name : List ℕ) → (tests_in_tables s).is_instance name ≡ is_only_instance names name
    instance' name =
        (λ i. h.instances name i && not (h.variables name i || (h.parameters name i || h.flags name i)))
        ∙ instance_is (is_named (instance_names names) name) (is_named (vector_names names) name) (is_named names.parameters name) (is_named names.flags name)
        ∙ sym (λ i. is_named (instance_names names) name && not (plain_is names name i))

-- ---- rules by tests

unknown_is : (tables : TableColumns) (names : SourceNames) (sort : InstanceOf) → unknown_by_tests tables (tests_of_unit names) sort ≡ unknown_in_instance tables names sort
unknown_is tables names (AnyPackage package' arguments) = ap (λ t. place_unless t package'.place) (some_mapped constructor_parameters (package_named names.known (spelled_name package')))
unknown_is tables names (HashObject keys items table) = refl
unknown_is tables names (HashIterator hash) = refl
unknown_is tables names (AnyThread thread) = refl

wrong_is : (names : SourceNames) (i : SourceInstance) (sort : InstanceOf) → wrong_by_tests (tests_of_unit names) i.name.place sort ≡ wrong_constructor names.known i sort
wrong_is names i (AnyPackage package' arguments) = by (package_named names.known (spelled_name package'))
  where
    by : (o : Option KnownPackage) → option_map_or (λ f. place_unless (nat_eq (length arguments) (length f)) i.name.place) (option_map constructor_parameters o) []
        ≡ option_map_or (λ (p : KnownPackage). place_unless (nat_eq (length arguments) (length (constructor_parameters p))) i.name.place) o []
    by None = refl
    by (Some p) = refl
wrong_is names i (HashObject keys items table) = refl
wrong_is names i (HashIterator hash) = refl
wrong_is names i (AnyThread thread) = refl

not_variable_is : (names : SourceNames) (sort : InstanceOf) → not_variable_by_tests (tests_of_unit names) sort ≡ not_variable_in_instance names sort
not_variable_is names (AnyPackage package' arguments) = by (package_named names.known (spelled_name package'))
  where
    by : (o : Option KnownPackage) → option_map_or (λ f. handed_constants f arguments) (option_map constructor_parameters o) []
        ≡ option_map_or (λ (p : KnownPackage). handed_constants (constructor_parameters p) arguments) o []
    by None = refl
    by (Some p) = refl
not_variable_is names (HashObject keys items table) = refl
not_variable_is names (HashIterator hash) = refl
not_variable_is names (AnyThread thread) = refl

each_same : {A : Type 0} (f g : A → List Place) → ((x : A) → f x ≡ g x) → (xs : List A) → from_each f xs ≡ from_each g xs
each_same f g h xs = λ i. from_each (λ x. h x i) xs

pub unknown_are : (tables : TableColumns) (names : SourceNames) → from_each (unknown_of tables (tests_of_unit names)) names.instances ≡ unknown_in_instances tables names
unknown_are tables names =
    each_same (unknown_of tables (tests_of_unit names)) (λ (i : SourceInstance). unknown_in_instance tables names i.sort) (λ i. unknown_is tables names i.sort) names.instances

pub wrong_are : (names : SourceNames) → from_each (wrong_of (tests_of_unit names)) names.instances ≡ wrong_constructors names
wrong_are names = each_same (wrong_of (tests_of_unit names)) (λ (i : SourceInstance). wrong_constructor names.known i i.sort) (λ i. wrong_is names i i.sort) names.instances

pub not_variables_are : (names : SourceNames) → from_each (not_variable_of (tests_of_unit names)) names.instances ≡ not_variable_in_instances names
not_variables_are names =
    each_same (not_variable_of (tests_of_unit names)) (λ (i : SourceInstance). not_variable_in_instance names i.sort) (λ i. not_variable_is names i.sort) names.instances
