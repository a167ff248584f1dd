-- The objects that a method sees are those that its unit declares.
use Rattle.std.proofs.Common.{◌≡◌, ◌⊎◌, inl, inr, ℕ, bytes_eq, cond, is_some, Bool, true, false, List, [], ◌∷◌, ◌++◌, map, filter, find, if◌then◌else◌, option_map, Option, Some, None, refl, sym, ap, ◌∙◌, subst}
use Rattle.std.specs.List.{AllByRecursion}
use Rattle.std.specs.Option.{option_map_or}
use Rattle.ds2_token.specs.declared.token.Token.{Token}
use Rattle.ds2_tree.specs.Globals.{Method}
use Rattle.ds2_value.specs.Types.{in_bounds}
use Rattle.ds2_meaning.specs.declared.globals.Variable as typed
use Rattle.ds2_meaning.specs.declared.hashes.DeclaredHash.{DeclaredHash}
use Rattle.ds2_meaning.specs.declared.hashes.DeclaredIterator.{DeclaredIterator}
use Rattle.ds2_meaning.specs.declared.hashes.ThreadInstance.{ThreadInstance}
use Rattle.ds2_meaning.specs.declared.readings.MentionedTable.{MentionedTable}
use Rattle.ds2_meaning.specs.HashObjects.{hash_named, iterator_named}
use Rattle.ds2_meaning.specs.IsTyped.{thread_parameters}
use Rattle.ds2_meaning.specs.Method.{MethodTree}
use Rattle.ds2_meaning.specs.ProgramTree.{InstanceTree, ProgramTree, reader_of, instance_methods}
use Rattle.ds2_names.specs.NameRules.{from_each}
use Rattle.ds2_names.specs.SourceUnit.{TableColumns, spelled_name, spelled_text, InstanceOf, AnyPackage, HashObject, HashIterator, AnyThread, SourceInstance}
use Rattle.ds2_names.specs.Uses.{method_named}
use Rattle.ds2_elaboration.specs.ExpressionTypes.{TypeScope, ObjectCalls, InstanceCalls, HashCalls, IteratorCalls, ParameterCalls, ObjectInScope, number_of_method}
use Rattle.ds2_elaboration.specs.ProgramTypes.{calls_of_sort, object_of_instance, typed_hash_variables, hash_load, hash_of_sort, iterator_of_sort, instance_of_package, instance_of_sort, thread_instance_of, may_call_on}
use Rattle.ds2_elaboration.specs.TypedPrograms.{PackageStands, UnitsStand}
use Rattle.ds2_elaboration.specs.TypedScopes.{MethodStands}
use Rattle.ds2_elaboration.specs.UnitsBefore.{PackageTypes, UnitsBefore, package_types, typed_thread_named}
use Rattle.ds2_elaboration.proofs.Lookups.{of_found, found_behind}
use Rattle.ds2_elaboration.proofs.Stages.{ThreadIsThere, thread_there, reader_typed}

pub some_here : {A : Type 0} (b : Bool) (x : A) (rest : Option A) → b ≡ true → is_some (cond b (Some x) rest) ≡ true
some_here true x rest e = refl
some_here false x rest e = cc

-- ---- what comes of instances

module _ (before : UnitsBefore) where
  abbrev pub instances_of : List SourceInstance → List InstanceTree
  instances_of is = from_each (λ (i : SourceInstance). instance_of_sort before (spelled_name i.name) i.sort) is

  abbrev pub threads_of : List SourceInstance → List ThreadInstance
  threads_of is = from_each (λ (i : SourceInstance). thread_instance_of before (spelled_name i.name) i.sort) is

  -- the thread program that an instance is one of is there
  abbrev pub HasThread : InstanceOf → Type 0
  HasThread (AnyThread thread) = is_some (typed_thread_named before.threads (spelled_name thread)) ≡ true
  HasThread _ = Unit {0}

  -- what is called on the object of a name
  abbrev pub calls_found : Bool → List ℕ → List SourceInstance → Option ObjectCalls
  calls_found in_init name is =
      option_map (λ (o : ObjectInScope). o.calls)
      (find (λ (o : ObjectInScope). bytes_eq o.name name) (map (object_of_instance before) (filter (λ (i : SourceInstance). may_call_on in_init i.sort) is)))

  same_calls : (a b : ObjectCalls) → Some a ≡ Some b → a ≡ b
  same_calls a b h = cc

  -- ---- the first instance of a name that may be called

  module _ (in_init : Bool) (name : List ℕ) (calls : ObjectCalls) (Q : List SourceInstance → Type 0)
      (here : (i : SourceInstance) (is : List SourceInstance) → may_call_on in_init i.sort ≡ true → bytes_eq (spelled_name i.name) name ≡ true
      → calls_of_sort before i.sort ≡ calls → Q (i ∷ is))
      (further : (i : SourceInstance) (is : List SourceInstance) → (may_call_on in_init i.sort ≡ false) ⊎ (bytes_eq (spelled_name i.name) name ≡ false) → Q is → Q (i ∷ is)) where
    abbrev objects_of : List SourceInstance → List ObjectInScope
    objects_of is = map (object_of_instance before) (filter (λ (i : SourceInstance). may_call_on in_init i.sort) is)

    abbrev first_of : List ObjectInScope → Option ObjectInScope
    first_of objects = find (λ (o : ObjectInScope). bytes_eq o.name name) objects

    named_if : (same : Bool) (i : SourceInstance) (is : List SourceInstance) → may_call_on in_init i.sort ≡ true → bytes_eq (spelled_name i.name) name ≡ same
        → (calls_found in_init name is ≡ Some calls → Q is)
        → option_map (λ (o : ObjectInScope). o.calls) (cond same (Some (object_of_instance before i)) (first_of (objects_of is))) ≡ Some calls → Q (i ∷ is)
    named_if true i is m e f h = here i is m e (same_calls (calls_of_sort before i.sort) calls h)
    named_if false i is m e f h = further i is (inr e) (f h)

    object_if : (may : Bool) (i : SourceInstance) (is : List SourceInstance) → may_call_on in_init i.sort ≡ may → (calls_found in_init name is ≡ Some calls → Q is)
        → option_map (λ (o : ObjectInScope). o.calls)
        (first_of (map (object_of_instance before) (cond may (i ∷ filter (λ (j : SourceInstance). may_call_on in_init j.sort) is) (filter (λ (j : SourceInstance). may_call_on in_init j.sort) is)))) ≡ Some calls
        → Q (i ∷ is)
    object_if true i is m f h = named_if (bytes_eq (spelled_name i.name) name) i is m refl f h
    object_if false i is m f h = further i is (inl m) (f h)

    pub object_found : (is : List SourceInstance) → calls_found in_init name is ≡ Some calls → Q is
    object_found [] h = cc
    object_found (i ∷ is) h = object_if (may_call_on in_init i.sort) i is refl (object_found is) h

  -- ---- instances of packages

  same_methods : (a b : List Method) → InstanceCalls a ≡ InstanceCalls b → a ≡ b
  same_methods a b h = cc

  none_is_some : {A : Type 0} (x : A) → None ≡ Some x → ⊥
  none_is_some x h = cc

  pub package_there : AllByRecursion PackageStands before.packages → (name : List ℕ) (p : PackageTypes) → package_types before.packages name ≡ Some p → PackageStands p
  package_there f name p h = of_found PackageStands (λ (x : PackageTypes). bytes_eq x.name name) before.packages p f h

  package_here : (own name : List ℕ) (methods : List Method) (rest : List InstanceTree) (found : Option PackageTypes) → ((p : PackageTypes) → found ≡ Some p → PackageStands p)
      → bytes_eq own name ≡ true → InstanceCalls (option_map_or (λ (p : PackageTypes). p.sources) found []) ≡ InstanceCalls methods → (method : List ℕ) (m : Method)
      → method_named methods method ≡ Some m → MethodStands (instance_methods (instance_of_package own found ++ rest) name) (number_of_method methods method) m
  package_here own name methods rest None f e c method m h =
      absurd (none_is_some m (ap (λ (ms : List Method). method_named ms method) (same_methods [] methods c) ∙ h))
  package_here own name methods rest (Some p) f e c method m h =
      let same = same_methods p.sources methods c in
      let stands = (f p refl).methods method m (ap (λ (ms : List Method). method_named ms method) same ∙ h) in
      subst (λ b. MethodStands (if b then p.methods else instance_methods rest name) (number_of_method methods method) m) (sym e)
      (subst (λ (ms : List Method). MethodStands p.methods (number_of_method ms method) m) same stands)

  instance_here : AllByRecursion PackageStands before.packages → (own name : List ℕ) (methods : List Method) (rest : List InstanceTree) (sort : InstanceOf) → bytes_eq own name ≡ true
      → calls_of_sort before sort ≡ InstanceCalls methods → (method : List ℕ) (m : Method) → method_named methods method ≡ Some m
      → MethodStands (instance_methods (instance_of_sort before own sort ++ rest) name) (number_of_method methods method) m
  instance_here f own name methods rest (AnyPackage package' arguments) e c =
      package_here own name methods rest (package_types before.packages (spelled_name package')) (package_there f (spelled_name package')) e c
  instance_here f own name methods rest (HashObject keys items table) e c = cc
  instance_here f own name methods rest (HashIterator hash) e c = cc
  instance_here f own name methods rest (AnyThread thread) e c = cc

  package_further : (own name : List ℕ) (rest : List InstanceTree) (found : Option PackageTypes) → bytes_eq own name ≡ false
      → instance_methods (instance_of_package own found ++ rest) name ≡ instance_methods rest name
  package_further own name rest None e = refl
  package_further own name rest (Some p) e = ap (λ b. if b then p.methods else instance_methods rest name) e

  pub instance_further : (in_init : Bool) (own name : List ℕ) (rest : List InstanceTree) (sort : InstanceOf) → (may_call_on in_init sort ≡ false) ⊎ (bytes_eq own name ≡ false)
      → instance_methods (instance_of_sort before own sort ++ rest) name ≡ instance_methods rest name
  instance_further in_init own name rest (AnyPackage package' arguments) (inl m) = cc
  instance_further in_init own name rest (AnyPackage package' arguments) (inr e) = package_further own name rest (package_types before.packages (spelled_name package')) e
  instance_further in_init own name rest (HashObject keys items table) s = refl
  instance_further in_init own name rest (HashIterator hash) s = refl
  instance_further in_init own name rest (AnyThread thread) s = refl

  pub methods_stand : AllByRecursion PackageStands before.packages → (in_init : Bool) (name : List ℕ) (methods : List Method) (is : List SourceInstance)
      → calls_found in_init name is ≡ Some (InstanceCalls methods) → (method : List ℕ) (m : Method) → method_named methods method ≡ Some m
      → MethodStands (instance_methods (instances_of is) name) (number_of_method methods method) m
  methods_stand f in_init name methods is h =
      object_found in_init name (InstanceCalls methods)
      (λ (js : List SourceInstance). (method : List ℕ) (m : Method) → method_named methods method ≡ Some m → MethodStands (instance_methods (instances_of js) name) (number_of_method methods method) m)
      (λ i js m e c. instance_here f (spelled_name i.name) name methods (instances_of js) i.sort e c)
      (λ i js s g method m k.
      subst (λ (ms : List MethodTree). MethodStands ms (number_of_method methods method) m) (sym (instance_further in_init (spelled_name i.name) name (instances_of js) i.sort s)) (g method m k))
      is h

  -- ---- hash objects and iterators

  module _ (tables : TableColumns) (made : List MentionedTable) (scope : TypeScope) where
    abbrev pub hashes_of : List SourceInstance → List DeclaredHash
    hashes_of is = from_each (λ (i : SourceInstance). hash_of_sort tables made scope (spelled_name i.name) i.sort) is

    -- the hash object that a declaration of this name is
    abbrev one_hash : List ℕ → (keys items : List Token) → Option Token → DeclaredHash
    one_hash own keys items table = record {
      name = own;
      key_variables = typed_hash_variables scope keys;
      data_variables = typed_hash_variables scope items;
      loaded = option_map (hash_load tables made) table;
    }

    hash_here : (own name : List ℕ) (rest : List DeclaredHash) (sort : InstanceOf) → bytes_eq own name ≡ true → calls_of_sort before sort ≡ HashCalls
        → is_some (hash_named (hash_of_sort tables made scope own sort ++ rest) name) ≡ true
    hash_here own name rest (AnyPackage package' arguments) e c = cc
    hash_here own name rest (HashObject keys items table) e c = some_here (bytes_eq own name) (one_hash own keys items table) (hash_named rest name) e
    hash_here own name rest (HashIterator hash) e c = cc
    hash_here own name rest (AnyThread thread) e c = cc

    pub hash_stands : (in_init : Bool) (name : List ℕ) (is : List SourceInstance) → calls_found in_init name is ≡ Some HashCalls
        → is_some (hash_named (hashes_of is) name) ≡ true
    hash_stands in_init name is h =
        object_found in_init name HashCalls (λ (js : List SourceInstance). is_some (hash_named (hashes_of js) name) ≡ true)
        (λ i js m e c. hash_here (spelled_name i.name) name (hashes_of js) i.sort e c)
        (λ i js s g. found_behind (λ (x : DeclaredHash). bytes_eq x.name name) (hash_of_sort tables made scope (spelled_name i.name) i.sort) (hashes_of js) g) is h

  abbrev pub iterators_of : List SourceInstance → List DeclaredIterator
  iterators_of is = from_each (λ (i : SourceInstance). iterator_of_sort (spelled_name i.name) i.sort) is

  iterator_here : (own name : List ℕ) (rest : List DeclaredIterator) (sort : InstanceOf) → bytes_eq own name ≡ true → calls_of_sort before sort ≡ IteratorCalls
      → is_some (iterator_named (iterator_of_sort own sort ++ rest) name) ≡ true
  iterator_here own name rest (AnyPackage package' arguments) e c = cc
  iterator_here own name rest (HashObject keys items table) e c = cc
  iterator_here own name rest (HashIterator hash) e c = some_here (bytes_eq own name) (record { name = own; hash = spelled_text hash }) (iterator_named rest name) e
  iterator_here own name rest (AnyThread thread) e c = cc

  pub iterator_stands : (in_init : Bool) (name : List ℕ) (is : List SourceInstance) → calls_found in_init name is ≡ Some IteratorCalls
      → is_some (iterator_named (iterators_of is) name) ≡ true
  iterator_stands in_init name is h =
      object_found in_init name IteratorCalls (λ (js : List SourceInstance). is_some (iterator_named (iterators_of js) name) ≡ true)
      (λ i js m e c. iterator_here (spelled_name i.name) name (iterators_of js) i.sort e c)
      (λ i js s g. found_behind (λ (x : DeclaredIterator). bytes_eq x.name name) (iterator_of_sort (spelled_name i.name) i.sort) (iterators_of js) g) is h

  -- ---- instances of thread programs

  same_parameters : (a b : List typed.Variable) → ParameterCalls a ≡ ParameterCalls b → a ≡ b
  same_parameters a b h = cc

  -- parameters of the instance of a name, of types in bounds
  abbrev ParametersStand : List ThreadInstance → List ℕ → List typed.Variable → Type 0
  ParametersStand threads name parameters = (thread_parameters threads name ≡ Some parameters) × AllByRecursion (λ (v : typed.Variable). in_bounds v.ty ≡ true) parameters

  thread_here : (own name : List ℕ) (parameters : List typed.Variable) (rest : List ThreadInstance) (found : Option ProgramTree) → ((p : ProgramTree) → found ≡ Some p → ThreadIsThere p)
      → bytes_eq own name ≡ true → ParameterCalls (option_map_or (λ p. (reader_of p).parameters) found []) ≡ ParameterCalls parameters → is_some found ≡ true
      → ParametersStand (option_map_or (λ p. record { name = own; parameters = (reader_of p).parameters } ∷ []) found [] ++ rest) name parameters
  thread_here own name parameters rest None f e c k = cc
  thread_here own name parameters rest (Some p) f e c k =
      let same = same_parameters (reader_of p).parameters parameters c in
      let bounds = (reader_typed p (f p refl).stands.typed).parameters.0 in (
        ap (λ b. if b then Some (reader_of p).parameters else thread_parameters rest name) e ∙ ap (λ ps. Some ps) same,
        subst (λ (ps : List typed.Variable). AllByRecursion (λ (v : typed.Variable). in_bounds v.ty ≡ true) ps) same bounds,
      )

  parameters_here : UnitsStand before → (own name : List ℕ) (parameters : List typed.Variable) (rest : List ThreadInstance) (sort : InstanceOf) → bytes_eq own name ≡ true
      → calls_of_sort before sort ≡ ParameterCalls parameters → HasThread sort → ParametersStand (thread_instance_of before own sort ++ rest) name parameters
  parameters_here stand own name parameters rest (AnyPackage package' arguments) e c k = cc
  parameters_here stand own name parameters rest (HashObject keys items table) e c k = cc
  parameters_here stand own name parameters rest (HashIterator hash) e c k = cc
  parameters_here stand own name parameters rest (AnyThread thread) e c k =
      thread_here own name parameters rest (typed_thread_named before.threads (spelled_name thread)) (thread_there before.threads stand.threads (spelled_name thread)) e c k

  thread_further : (own name : List ℕ) (rest : List ThreadInstance) (found : Option ProgramTree) → bytes_eq own name ≡ false
      → thread_parameters (option_map_or (λ p. record { name = own; parameters = (reader_of p).parameters } ∷ []) found [] ++ rest) name ≡ thread_parameters rest name
  thread_further own name rest None e = refl
  thread_further own name rest (Some p) e = ap (λ b. if b then Some (reader_of p).parameters else thread_parameters rest name) e

  pub parameters_further : (own name : List ℕ) (rest : List ThreadInstance) (sort : InstanceOf) → (may_call_on true sort ≡ false) ⊎ (bytes_eq own name ≡ false)
      → thread_parameters (thread_instance_of before own sort ++ rest) name ≡ thread_parameters rest name
  parameters_further own name rest (AnyPackage package' arguments) s = refl
  parameters_further own name rest (HashObject keys items table) s = refl
  parameters_further own name rest (HashIterator hash) s = refl
  parameters_further own name rest (AnyThread thread) (inl m) = cc
  parameters_further own name rest (AnyThread thread) (inr e) = thread_further own name rest (typed_thread_named before.threads (spelled_name thread)) e

  pub parameters_stand : UnitsStand before → (name : List ℕ) (parameters : List typed.Variable) (is : List SourceInstance)
      → AllByRecursion (λ (i : SourceInstance). HasThread i.sort) is → calls_found true name is ≡ Some (ParameterCalls parameters)
      → ParametersStand (threads_of is) name parameters
  parameters_stand stand name parameters is known h =
      object_found true name (ParameterCalls parameters)
      (λ (js : List SourceInstance). AllByRecursion (λ (i : SourceInstance). HasThread i.sort) js → ParametersStand (threads_of js) name parameters)
      (λ i js m e c k. parameters_here stand (spelled_name i.name) name parameters (threads_of js) i.sort e c k.0)
      (λ i js s g k.
      let rest = g k.1 in (parameters_further (spelled_name i.name) name (threads_of js) i.sort s ∙ rest.0, rest.1))
      is h known

  -- no parameters are set outside of `init`
  not_called : (sort : InstanceOf) (parameters : List typed.Variable) → may_call_on false sort ≡ true → calls_of_sort before sort ≡ ParameterCalls parameters → ⊥
  not_called (AnyPackage package' arguments) parameters m c = cc
  not_called (HashObject keys items table) parameters m c = cc
  not_called (HashIterator hash) parameters m c = cc
  not_called (AnyThread thread) parameters m c = cc

  pub no_parameters_called : (name : List ℕ) (parameters : List typed.Variable) (is : List SourceInstance) → calls_found false name is ≡ Some (ParameterCalls parameters) → ⊥
  no_parameters_called name parameters is h =
      object_found false name (ParameterCalls parameters) (λ (js : List SourceInstance). ⊥) (λ i js m e c. not_called i.sort parameters m c) (λ i js s g. g) is h

  -- ---- units without instances of packages and of thread programs

  -- a hash object or an iterator
  abbrev pub IsOwnObject : InstanceOf → Type 0
  IsOwnObject (AnyPackage package' arguments) = ⊥
  IsOwnObject (HashObject keys items table) = Unit {0}
  IsOwnObject (HashIterator hash) = Unit {0}
  IsOwnObject (AnyThread thread) = ⊥

  not_own : (sort : InstanceOf) (methods : List Method) → calls_of_sort before sort ≡ InstanceCalls methods → IsOwnObject sort → ⊥
  not_own (AnyPackage package' arguments) methods c k = k
  not_own (HashObject keys items table) methods c k = cc
  not_own (HashIterator hash) methods c k = cc
  not_own (AnyThread thread) methods c k = k

  pub no_instance_called : (in_init : Bool) (name : List ℕ) (methods : List Method) (is : List SourceInstance) → AllByRecursion (λ (i : SourceInstance). IsOwnObject i.sort) is
      → calls_found in_init name is ≡ Some (InstanceCalls methods) → ⊥
  no_instance_called in_init name methods is own h =
      object_found in_init name (InstanceCalls methods) (λ (js : List SourceInstance). AllByRecursion (λ (i : SourceInstance). IsOwnObject i.sort) js → ⊥)
      (λ i js m e c k. not_own i.sort methods c k.0) (λ i js s g k. g k.1) is h own

-- a name that no parameter or local hides
pub unhidden : (b : Bool) (found : Option ObjectCalls) (calls : ObjectCalls) → (if b then None else found) ≡ Some calls → found ≡ Some calls
unhidden true found calls h = cc
unhidden false found calls h = h
