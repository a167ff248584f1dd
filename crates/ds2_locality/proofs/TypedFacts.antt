-- What the walks ask of a program holds of a typed one.
use Rattle.std.proofs.Common.{◌≡◌, ℕ, zero, suc, Bool, true, false, ◌&&◌, ◌||◌, cond, List, [], ◌∷◌, ◌++◌, length, map, flat_map, slice_get, bytes_eq, Option, Some, None, is_some, refl, sym, ap, ◌∙◌, subst, IsTrue, if◌then◌else◌}
use Rattle.std.specs.List.{AllByRecursion, list_any, range_with_len}
use Rattle.std.proofs.lemmas.Bool.{true≢false, or_parts}
use Rattle.std.proofs.lemmas.Slice.Eq.{bytes_eq-Decides}
use Rattle.ds2_value.specs.declared.fault.TheConstants.{CALL_DEPTH}
use Rattle.ds2_value.specs.declared.ty.Ty.{Ty}
use Rattle.ds2_meaning.specs.declared.globals.OutputColumn.{OutputColumn}
use Rattle.ds2_meaning.specs.declared.globals.OutputTable.{OutputTable}
use Rattle.ds2_meaning.specs.declared.globals.Variable.{Variable}
use Rattle.ds2_meaning.specs.declared.hashes.DeclaredHash.{DeclaredHash}
use Rattle.ds2_meaning.specs.declared.hashes.DeclaredIterator.{DeclaredIterator}
use Rattle.ds2_meaning.specs.declared.hashes.HashVariable.{HashVariable}
use Rattle.ds2_meaning.specs.declared.hashes.ThreadInstance.{ThreadInstance}
use Rattle.ds2_meaning.specs.declared.location.Global.{Global}
use Rattle.ds2_meaning.specs.declared.location.Global.TheVariants.{Named, First, Last, Present, Parameter}
use Rattle.ds2_meaning.specs.declared.location.Reference.TheVariants.{At}
use Rattle.ds2_meaning.specs.HashObjects.{DeclaredObjects, hash_named, iterator_named, object_at}
use Rattle.ds2_meaning.specs.IsTyped.{type_in, IsTarget, are_distinct, variable_names, object_names, names_in_method, IsTypedMethod, AreTypedMethods, globals_of, package_globals, package_methods, names_in_body, AreHashVariables, AreHashTargets, AreTypedHashes, AreTypedIterators, AreTypedObjects, AreTypedInstances, AreTypedOutputs, AreOutputColumns, IsTypedUnit}
use Rattle.ds2_meaning.specs.Location.{Home, is_same_home, is_same_global, Location, is_same_location}
use Rattle.ds2_meaning.specs.Method.{MethodTree}
use Rattle.ds2_meaning.specs.ProgramTree.{InstanceTree, UnitTree, data_vector, sources, output_sources, is_listed, instance_methods, methods_of, instance_objects, objects_of}
use Rattle.ds2_layout.specs.declared.slot.LayoutSlot.{LayoutSlot}
use Rattle.ds2_layout.specs.Layout.{instance_slots, program_slots, location_of_slot}
use Rattle.ds2_locality.specs.Deeds.{MethodAt, system_scope, method_scope, global_at, variables_at, columns_at, columns_written, body_deeds, deeds_of_method, method_deeds}
use Rattle.ds2_locality.specs.KeptLocations.{is_hash_global, is_iterator_global, seen_in_kind}
use Rattle.ds2_locality.specs.Soundness.{ObjectsTold}
use Rattle.ds2_locality.specs.Verdict.{JudgedThread}
use Rattle.ds2_locality.proofs.Frame.{AreAllowed, Any}
use Rattle.ds2_locality.proofs.Near.{Free, IsValueAt}
use Rattle.ds2_locality.proofs.Objects.{any_in_back, any_front_none, names_apart, distinct_front, hash_there, no_hash_named, objects_are_seen}
use Rattle.ds2_locality.proofs.Reached.{Safe}
use Rattle.ds2_locality.proofs.SameObjects.{ObjectsStand}
use Rattle.ds2_locality.proofs.SameUnits.{Stands}
use Rattle.ds2_locality.proofs.Slots.{HasSlot, own_slot, among_instances, package_slot}
use Rattle.ds2_locality.proofs.TypedDeeds.{statements_fine}
use Rattle.ds2_locality.proofs.Walks.{IsAmong, Mentioned}

-- ---- lists and names

or_more : (a b d : Bool) → (b ≡ true → d ≡ true) → (a || b) ≡ true → (a || d) ≡ true
or_more true b d f e = refl
or_more false b d f e = f e

pub any_front : {A : Type 0} (test : A → Bool) (xs ys : List A) → list_any test xs ≡ true → list_any test (xs ++ ys) ≡ true
any_front test [] ys e = absurd (true≢false (sym e))
any_front test (x ∷ xs) ys e = or_more (test x) (list_any test xs) (list_any test (xs ++ ys)) (λ k. any_front test xs ys k) e

any_back_none : {A : Type 0} (test : A → Bool) (xs ys : List A) → list_any test (xs ++ ys) ≡ false → list_any test ys ≡ false
any_back_none test [] ys e = e
any_back_none test (x ∷ xs) ys e = any_back_none test xs ys (or_parts (test x) (list_any test (xs ++ ys)) e).1

-- of distinct names in two lists none stands in both
apart_back : (xs ys : List (List ℕ)) (name : List ℕ) → IsTrue (are_distinct (xs ++ ys)) → is_listed xs name ≡ true → is_listed ys name ≡ false
apart_back xs ys name distinct there = by (is_listed ys name) refl
  where
    by : (b : Bool) → is_listed ys name ≡ b → b ≡ false
    by true e = absurd (true≢false (sym there ∙ names_apart xs ys name distinct e))
    by false e = refl

none_by : {A : Type 0} (b : Bool) (x : A) (o : Option A) → b ≡ false → is_some o ≡ false → is_some (cond b (Some x) o) ≡ false
none_by true x o e h = absurd (true≢false e)
none_by false x o e h = h

no_iterator_named : (is : List DeclaredIterator) (name : List ℕ) → is_listed (map (λ (i : DeclaredIterator). i.name) is) name ≡ false → is_some (iterator_named is name) ≡ false
no_iterator_named [] name e = refl
no_iterator_named (i ∷ is) name e =
    let parts = or_parts (bytes_eq i.name name) (is_listed (map (λ (i : DeclaredIterator). i.name) is) name) e in
    none_by (bytes_eq i.name name) i (iterator_named is name) parts.0 (no_iterator_named is name parts.1)

listed_by : (b d : Bool) (q ty : Ty) (o : Option Ty) → (if b then Some q else o) ≡ Some ty → (o ≡ Some ty → d ≡ true) → (b || d) ≡ true
listed_by true d q ty o e f = refl
listed_by false d q ty o e f = f e

type_listed : (vs : List Variable) (name : List ℕ) (ty : Ty) → type_in vs name ≡ Some ty → is_listed (variable_names vs) name ≡ true
type_listed [] name ty e = absurd cc
type_listed (v ∷ vs) name ty e = listed_by (bytes_eq v.name name) (is_listed (variable_names vs) name) v.ty ty (type_in vs name) e (λ k. type_listed vs name ty k)

-- ---- which globals are variables

-- a global is neither a hash object nor an iterator among these
abbrev IsVariable : DeclaredObjects → Global → Type 0
IsVariable objects g = (is_hash_global objects g ≡ false) × (is_iterator_global objects g ≡ false)

named_variable : (names : List (List ℕ)) (objects : DeclaredObjects) (name : List ℕ) → IsTrue (are_distinct (names ++ object_names objects)) → is_listed names name ≡ true → IsVariable objects (Named name)
named_variable names objects name distinct there =
    let hashes = map (λ (h : DeclaredHash). h.name) objects.hashes in
    let iterators = map (λ (i : DeclaredIterator). i.name) objects.iterators in
    let none = apart_back names (object_names objects) name distinct there in (
      no_hash_named objects.hashes name (any_front_none (λ other. bytes_eq other name) hashes iterators none),
      no_iterator_named objects.iterators name (any_back_none (λ other. bytes_eq other name) hashes iterators none),
    )

value_at : (p : UnitTree) (home : Home) (g : Global) → IsVariable (objects_of p home) g → IsValueAt p (global_at home g)
value_at p home g h c = ap (λ b. seen_in_kind b (is_iterator_global (objects_of p home) g) c) h.0 ∙ ap (λ b. seen_in_kind false b c) h.1

-- ---- a home: its methods and objects are typed among globals that are variables

pub record TypedHome (Slotted : Global → Type 0) (methods : List MethodTree) (objects : DeclaredObjects) : Type 0 where
  pub globals : Global → Option Ty
  pub callable : Option (List ℕ) → List MethodTree
  pub methods_typed : AreTypedMethods globals callable objects methods
  pub objects_typed : AreTypedObjects globals objects
  pub variables : (g : Global) (ty : Ty) → globals g ≡ Some ty → IsVariable objects g
  pub slotted : (g : Global) (ty : Ty) → globals g ≡ Some ty → Slotted g

package_variable : (variables : List Variable) (objects : DeclaredObjects) → IsTrue (are_distinct (variable_names variables ++ object_names objects)) → (g : Global) (ty : Ty) → package_globals variables g ≡ Some ty → IsVariable objects g
package_variable variables objects distinct (Named name) ty e = named_variable (variable_names variables) objects name distinct (type_listed variables name ty e)
package_variable variables objects distinct (First name) ty e = absurd cc
package_variable variables objects distinct (Last name) ty e = absurd cc
package_variable variables objects distinct (Present name) ty e = absurd cc
package_variable variables objects distinct (Parameter name) ty e = absurd cc

-- slots of instances
abbrev InSlots : List ℕ → List InstanceTree → Global → Type 0
InSlots name instances g = HasSlot (global_at (Some name) g) (flat_map instance_slots instances)

slots_front : (at : Location) (xs ys : List LayoutSlot) → HasSlot at xs → HasSlot at (xs ++ ys)
slots_front at [] ys h = absurd (true≢false (sym h))
slots_front at (x ∷ xs) ys h =
    or_more (is_same_location at (location_of_slot x)) (list_any (λ other. is_same_location at other) (map location_of_slot xs)) (list_any (λ other. is_same_location at other) (map location_of_slot (xs ++ ys)))
    (λ k. slots_front at xs ys k) h

slots_back : (at : Location) (xs ys : List LayoutSlot) → HasSlot at ys → HasSlot at (xs ++ ys)
slots_back at [] ys h = h
slots_back at (x ∷ xs) ys h = later (is_same_location at (location_of_slot x)) (list_any (λ other. is_same_location at other) (map location_of_slot (xs ++ ys))) (slots_back at xs ys h)
  where
    later : (a b : Bool) → b ≡ true → (a || b) ≡ true
    later true b e = refl
    later false b e = e

instance_by : (Slotted : Global → Type 0) (b : Bool) (i : InstanceTree) (methods : List MethodTree) (objects : DeclaredObjects) → (b ≡ true → TypedHome Slotted i.methods i.objects) → TypedHome Slotted methods objects
    → TypedHome Slotted (if b then i.methods else methods) (if b then i.objects else objects)
instance_by Slotted true i methods objects f h = f refl
instance_by Slotted false i methods objects f h = h

pub instance_home : (instances : List InstanceTree) (name : List ℕ) → AreTypedInstances instances → TypedHome (InSlots name instances) (instance_methods instances name) (instance_objects instances name)
instance_home [] name typed = record { globals = λ g. None; callable = λ i. []; methods_typed = tt; objects_typed = (tt, tt); variables = λ g ty e. absurd cc; slotted = λ g ty e. absurd cc }
instance_home (i ∷ instances) name typed =
    let rest = instance_home instances name typed.4 in
    instance_by (InSlots name (i ∷ instances)) (bytes_eq i.name name) i (instance_methods instances name) (instance_objects instances name)
    (λ same. record {
      globals = package_globals i.variables;
      callable = package_methods i.methods;
      methods_typed = typed.3;
      objects_typed = typed.2;
      variables = package_variable i.variables i.objects typed.1;
      slotted = λ g ty e. slots_front (global_at (Some name) g) (instance_slots i) (flat_map instance_slots instances) (package_slot i name same g ty e);
    })
    (record {
      globals = rest.globals;
      callable = rest.callable;
      methods_typed = rest.methods_typed;
      objects_typed = rest.objects_typed;
      variables = rest.variables;
      slotted = λ g ty e. slots_back (global_at (Some name) g) (instance_slots i) (flat_map instance_slots instances) (rest.slotted g ty e);
    })

-- ---- hash objects by name

found_if : {A : Type 0} (b : Bool) (x h : A) (o : Option A) (P : A → Type 0) → (b ≡ true → P x) → cond b (Some x) o ≡ Some h → (o ≡ Some h → P h) → P h
found_if true x h o P q e later = let same : x ≡ h = cc in subst P same (q refl)
found_if false x h o P q e later = later e

abbrev HashTyped : (Global → Option Ty) → DeclaredHash → Type 0
HashTyped globals h = AreHashVariables globals h.key_variables × AreHashVariables globals h.data_variables × AreHashTargets h.data_variables

hash_typed : (globals : Global → Option Ty) (hs : List DeclaredHash) → AreTypedHashes globals hs → (name : List ℕ) (h : DeclaredHash) → hash_named hs name ≡ Some h → HashTyped globals h
hash_typed globals [] typed name h e = absurd cc
hash_typed globals (x ∷ hs) typed name h e =
    found_if (bytes_eq x.name name) x h (hash_named hs name) (HashTyped globals) (λ k. (typed.0.0, typed.0.1, typed.0.2)) e (λ k. hash_typed globals hs typed.1 name h k)

iterator_has_name : (is : List DeclaredIterator) (name : List ℕ) (i : DeclaredIterator) → iterator_named is name ≡ Some i → bytes_eq i.name name ≡ true
iterator_has_name [] name i e = absurd cc
iterator_has_name (x ∷ is) name i e =
    found_if (bytes_eq x.name name) x i (iterator_named is name) (λ (z : DeclaredIterator). bytes_eq z.name name ≡ true) (λ k. k) e (λ k. iterator_has_name is name i k)

iterator_there : (is : List DeclaredIterator) (name : List ℕ) (i : DeclaredIterator) → iterator_named is name ≡ Some i → is_some (iterator_named is i.name) ≡ true
iterator_there is name i e = ap (λ n. is_some (iterator_named is n)) ((bytes_eq-Decides i.name name).0 (iterator_has_name is name i e)) ∙ ap is_some e

iterator_typed : (hashes : List DeclaredHash) (is : List DeclaredIterator) → AreTypedIterators hashes is → (name : List ℕ) (i : DeclaredIterator) → iterator_named is name ≡ Some i → is_some (hash_named hashes i.hash) ≡ true
iterator_typed hashes [] typed name i e = absurd cc
iterator_typed hashes (x ∷ is) typed name i e =
    found_if (bytes_eq x.name name) x i (iterator_named is name) (λ (z : DeclaredIterator). is_some (hash_named hashes z.hash) ≡ true) (λ k. typed.0) e (λ k. iterator_typed hashes is typed.1 name i k)

method_at : (globals : Global → Option Ty) (callable : Option (List ℕ) → List MethodTree) (objects : DeclaredObjects) (ms : List MethodTree) (n : ℕ) (m : MethodTree) → AreTypedMethods globals callable objects ms → slice_get ms n ≡ Some m
    → IsTypedMethod globals callable objects m
method_at globals callable objects [] n m typed e = absurd cc
method_at globals callable objects (x ∷ ms) zero m typed e = let same : x ≡ m = cc in subst (IsTypedMethod globals callable objects) same typed.0
method_at globals callable objects (x ∷ ms) (suc n) m typed e = method_at globals callable objects ms n m typed.1 e

-- ---- the facts

-- known flags are `first` of BY variables alone
abbrev pub is_first : Global → Bool
is_first (First name) = true
is_first _ = false

module _ (p : UnitTree) (typed : IsTypedUnit p) where
  own_names : IsTrue (are_distinct (variable_names (data_vector p) ++ object_names p.objects))
  own_names =
      let instances = map (λ (i : InstanceTree). i.name) p.instances in
      let threads = map (λ (i : ThreadInstance). i.name) p.threads in
      let own = variable_names (data_vector p) ++ object_names p.objects in
      distinct_front own instances (distinct_front (own ++ instances) threads typed.names)

  pub own_variable : (g : Global) (ty : Ty) → globals_of p g ≡ Some ty → IsVariable p.objects g
  own_variable (Named name) ty e = named_variable (variable_names (data_vector p)) p.objects name own_names (type_listed (data_vector p) name ty e)
  own_variable (First name) ty e = (refl, refl)
  own_variable (Last name) ty e = (refl, refl)
  own_variable (Present name) ty e = (refl, refl)
  own_variable (Parameter name) ty e = (refl, refl)

  -- each home of a typed program is typed
  abbrev pub home_typed : (home : Home) → TypedHome (λ (g : Global). HasSlot (global_at home g) (program_slots p)) (methods_of p home) (objects_of p home)
  home_typed None = record {
    globals = globals_of p;
    callable = methods_of p;
    methods_typed = typed.methods;
    objects_typed = typed.objects;
    variables = own_variable;
    slotted = λ g ty e. own_slot p g ty e;
  }
  home_typed (Some name) =
      let found = instance_home p.instances name typed.instances in
      record {
        globals = found.globals;
        callable = found.callable;
        methods_typed = found.methods_typed;
        objects_typed = found.objects_typed;
        variables = found.variables;
        slotted = λ g ty e. among_instances p (global_at (Some name) g) (found.slotted g ty e);
      }

  -- the columns of outputs
  sources_are : (W : Location → Type 0) → ((g : Global) (ty : Ty) → globals_of p g ≡ Some ty → W (global_at None g)) → (columns : List OutputColumn) → AreOutputColumns (data_vector p) columns
      → AllByRecursion W (map (λ name. global_at None (Named name)) (map (λ (c : OutputColumn). c.source) columns))
  sources_are W f [] h = tt
  sources_are W f (c ∷ columns) h = (f (Named c.source) c.ty h.0, sources_are W f columns h.1)

  output_are : (W : Location → Type 0) → ((g : Global) (ty : Ty) → globals_of p g ≡ Some ty → W (global_at None g)) → (outputs : List OutputTable) → AreTypedOutputs (data_vector p) outputs → (n : ℕ)
      → AllByRecursion W (columns_at None (slice_get (map sources outputs) n))
  output_are W f [] h n = tt
  output_are W f (o ∷ outputs) h zero = sources_are W f o.columns h.2
  output_are W f (o ∷ outputs) h (suc n) = output_are W f outputs h.3 n

  all_joined : {A : Type 0} (P : A → Type 0) (xs ys : List A) → AllByRecursion P xs → AllByRecursion P ys → AllByRecursion P (xs ++ ys)
  all_joined P [] ys g h = h
  all_joined P (x ∷ xs) ys g h = (g.0, all_joined P xs ys g.1 h)

  pub own_columns : (W : Location → Type 0) → ((g : Global) (ty : Ty) → globals_of p g ≡ Some ty → W (global_at None g)) → (ns : List ℕ) → AllByRecursion W (columns_written (system_scope p) ns)
  own_columns W f [] = tt
  own_columns W f (n ∷ ns) =
      all_joined W (columns_at None (slice_get (output_sources p) n)) (columns_written (system_scope p) ns) (output_are W f p.outputs typed.outputs n) (own_columns W f ns)

  no_columns : (W : Location → Type 0) (home : Home) (ns : List ℕ) → AllByRecursion W (columns_written (method_scope p home) ns)
  no_columns W home [] = tt
  no_columns W home (n ∷ ns) = no_columns W home ns

  -- what holds of the variables, objects and targets of each home holds of the deeds of its methods
  module _ (W U V : Location → Type 0)
      (values_are : (home : Home) (g : Global) (ty : Ty) → (home_typed home).globals g ≡ Some ty → W (global_at home g))
      (targets_are : (home : Home) (g : Global) → IsTarget (At g) → V (global_at home g))
      (hashes_are : (home : Home) (name : List ℕ) (h : DeclaredHash) → hash_named (objects_of p home).hashes name ≡ Some h → U (object_at home h.name))
      (iterators_are : (home : Home) (name : List ℕ) (i : DeclaredIterator) → iterator_named (objects_of p home).iterators name ≡ Some i → U (object_at home i.name) × U (object_at home i.hash)) where
    method_fine : (R : MethodAt → Type 0) → ((m : MethodAt) → R m) → (home : Home) (n : ℕ) (o : Option MethodTree) → slice_get (methods_of p home) n ≡ o → AreAllowed W U V R (deeds_of_method p home o)
    method_fine R any_call home n None e = tt
    method_fine R any_call home n (Some m) e =
        let t = home_typed home in
        statements_fine W U V R any_call (names_in_method t.globals t.callable (objects_of p home) m) (method_scope p home) (values_are home) (targets_are home) (λ name. targets_are home (Named name) tt) (hashes_are home) (iterators_are home)
        (λ name h k. hash_typed t.globals (objects_of p home).hashes t.objects_typed.0 name h k) (λ instance name. targets_are (Some instance) (Parameter name) tt) (λ ns. no_columns W home ns) false m.body
        (method_at t.globals t.callable (objects_of p home) (methods_of p home) n m t.methods_typed e).1

    pub deeds_fine : (R : MethodAt → Type 0) → ((m : MethodAt) → R m) → (m : MethodAt) → AreAllowed W U V R (method_deeds p m)
    deeds_fine R any_call m = method_fine R any_call m.home m.number (slice_get (methods_of p m.home) m.number) refl

    pub safe_fine : (n : ℕ) (m : MethodAt) → Safe p W U V n m
    safe_fine zero m = tt
    safe_fine (suc n) m = deeds_fine (Safe p W U V n) (λ k. safe_fine n k) m

    pub run_fine : (R : MethodAt → Type 0) → ((m : MethodAt) → R m) → AreAllowed W U V R (body_deeds (system_scope p) p.run.statements)
    run_fine R any_call =
        statements_fine W U V R any_call (names_in_body p p.run.locals) (system_scope p) (values_are None) (targets_are None) (λ name. targets_are None (Named name) tt) (hashes_are None) (iterators_are None)
        (λ name h k. hash_typed (globals_of p) p.objects.hashes typed.objects.0 name h k) (λ instance name. targets_are (Some instance) (Parameter name) tt) (λ ns. own_columns W (λ g ty e. values_are None g ty e) ns) false p.run.statements
        typed.run.1

  -- ---- values, and flags that are known

  pub value_of : (home : Home) (g : Global) (ty : Ty) → (home_typed home).globals g ≡ Some ty → IsValueAt p (global_at home g)
  value_of home g ty e = value_at p home g ((home_typed home).variables g ty e)

  other_global : (a b : Global) → is_first a ≡ true → IsTarget (At b) → is_same_global a b ≡ false
  other_global (First n) (Named m) e h = refl
  other_global (First n) (Parameter m) e h = refl
  other_global (First n) (First m) e h = absurd h
  other_global (First n) (Last m) e h = absurd h
  other_global (First n) (Present m) e h = absurd h
  other_global (Named n) b e h = absurd (true≢false (sym e))
  other_global (Last n) b e h = absurd (true≢false (sym e))
  other_global (Present n) b e h = absurd (true≢false (sym e))
  other_global (Parameter n) b e h = absurd (true≢false (sym e))

  and_not : (a b : Bool) → b ≡ false → (a && b) ≡ false
  and_not true b e = e
  and_not false b e = refl

  module _ (known : Location → Bool) (firsts : (k : Location) → known k ≡ true → is_first k.global ≡ true) where
    pub target_free : (home : Home) (g : Global) → IsTarget (At g) → Free known (global_at home g)
    target_free home g h k e = and_not (is_same_home k.home home) (is_same_global k.global g) (other_global k.global g (firsts k e) h)

    keys_are_values : (home : Home) (variables : List HashVariable) → AreHashVariables (home_typed home).globals variables → AllByRecursion (IsValueAt p) (variables_at home variables)
    keys_are_values home [] h = tt
    keys_are_values home (v ∷ variables) h = (value_of home v.global v.ty h.0, keys_are_values home variables h.2)

    data_are_free : (home : Home) (variables : List HashVariable) → AreHashTargets variables → AllByRecursion (Free known) (variables_at home variables)
    data_are_free home [] h = tt
    data_are_free home (v ∷ variables) h = (target_free home v.global h.0, data_are_free home variables h.1)

    hash_of : (home : Home) (name : List ℕ) (h : DeclaredHash) → hash_named (objects_of p home).hashes name ≡ Some h → HashTyped (home_typed home).globals h
    hash_of home name h e = hash_typed (home_typed home).globals (objects_of p home).hashes (home_typed home).objects_typed.0 name h e

    pub objects_stand : ObjectsStand p known
    objects_stand = record {
      seen = objects_are_seen p typed;
      free = λ home name. target_free home (Named name) tt;
      data_free = λ home name h e. data_are_free home h.data_variables (hash_of home name h e).2;
      keys_are = λ home name h e. keys_are_values home h.key_variables (hash_of home name h e).0;
      data_are = λ home name h e. keys_are_values home h.data_variables (hash_of home name h e).1;
    }

-- what a walk asks that knows no flags but `first` of BY variables
pub stands : (t : JudgedThread) (typed : IsTypedUnit t.program) (known : Location → Bool) → ((k : Location) → known k ≡ true → is_first k.global ≡ true) → Stands t known
stands t typed known firsts =
    let p = t.program in
    let values : (home : Home) (g : Global) (ty : Ty) → (home_typed p typed home).globals g ≡ Some ty → IsValueAt p (global_at home g) = λ home g ty e. value_of p typed home g ty e in
    let targets : (home : Home) (g : Global) → IsTarget (At g) → Free known (global_at home g) = λ home g h. target_free p typed known firsts home g h in
    record {
      objects = objects_stand p typed known firsts;
      body = run_fine p typed (IsValueAt p) Any (Free known) values targets (λ home name h e. tt) (λ home name i e. (tt, tt)) (Safe p (IsValueAt p) Any (Free known) CALL_DEPTH)
          (λ m. safe_fine p typed (IsValueAt p) Any (Free known) values targets (λ home name h e. tt) (λ home name i e. (tt, tt)) CALL_DEPTH m);
      outputs = own_columns p typed (IsValueAt p) (λ g ty e. value_of p typed None g ty e) (range_with_len 0 (length p.outputs));
    }

-- ---- locations in order

-- what methods mention is among the locations of the program
pub mentioned : (t : JudgedThread) → IsTypedUnit t.program → ObjectsTold t → Mentioned t
mentioned t typed told =
    let p = t.program in
    let slots = map location_of_slot (program_slots p) in
    let object_among : (home : Home) (name : List ℕ) → list_any (λ other. is_same_location (object_at home name) other) t.objects ≡ true → IsAmong t (object_at home name) =
    λ home name e. any_in_back (λ other. is_same_location (object_at home name) other) slots t.objects e in
    record {
      among = λ m. deeds_fine p typed (IsAmong t) (IsAmong t) Any
          (λ home g ty e. any_front (λ other. is_same_location (global_at home g) other) slots t.objects ((home_typed p typed home).slotted g ty e))
          (λ home g h. tt)
          (λ home name h e. object_among home h.name (told.hashes home h.name (hash_there (objects_of p home).hashes name h e)))
          (λ home name i e. (
            object_among home i.name (told.iterators home i.name (iterator_there (objects_of p home).iterators name i e)),
            object_among home i.hash (told.hashes home i.hash (iterator_typed (objects_of p home).hashes (objects_of p home).iterators (home_typed p typed home).objects_typed.1 name i e)),
          ))
          (λ k. Unit {0}) (λ k. tt) m;
    }
