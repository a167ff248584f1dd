-- What `run` of a typed thread program changes, and its flags, are among its locations.
use Rattle.std.proofs.Common.{◌≡◌, ℕ, zero, suc, Bool, true, false, true≢false, ◌||◌, cond, List, [], ◌∷◌, ◌++◌, map, find, flat_map, slice_get, bytes_eq, Option, Some, None, is_some, refl, sym, subst, ◌⊎◌, inl, inr}
use Rattle.std.specs.List.{AllByRecursion, list_any}
use Rattle.std.proofs.lemmas.Bool.{and_parts, or_cases}
use Rattle.std.proofs.lemmas.Slice.Eq.{bytes_eq-Decides}
use Rattle.ds2_value.specs.declared.ty.Ty.{Ty}
use Rattle.ds2_value.specs.declared.ty.Ty.TheVariants.{BigInt}
use Rattle.ds2_meaning.specs.declared.hashes.DeclaredHash.{DeclaredHash}
use Rattle.ds2_meaning.specs.declared.hashes.DeclaredIterator.{DeclaredIterator}
use Rattle.ds2_meaning.specs.declared.location.Global.{Global}
use Rattle.ds2_meaning.specs.declared.location.Global.TheVariants.{Named, First, Last, Present, Parameter}
use Rattle.ds2_meaning.specs.HashObjects.{hash_named, iterator_named, object_at}
use Rattle.ds2_meaning.specs.IsTyped.{is_by, flag_type, globals_of, names_in_method, names_in_body, IsTypedMethod, AreTypedMethods, AreTypedHashes, AreHashVariables, IsTypedUnit}
use Rattle.ds2_meaning.specs.Location.{Home, Location, is_same_location}
use Rattle.ds2_meaning.specs.Method.{MethodTree}
use Rattle.ds2_meaning.specs.ProgramTree.{UnitTree, methods_of, objects_of}
use Rattle.ds2_meaning.specs.Reading.{bys_of}
use Rattle.ds2_layout.specs.Layout.{program_slots, location_of_slot}
use Rattle.ds2_locality.specs.Deeds.{MethodAt, Deed, Mention, MentionObject, Change, CallOf, WriteAt, system_scope, method_scope, global_at, body_deeds, deeds_of_method, method_deeds, may_be_called, run_deeds, changes_location, run_can_change}
use Rattle.ds2_locality.specs.KeptLocations.{is_kept, is_flag_of_by}
use Rattle.ds2_locality.specs.Soundness.{ObjectsTold}
use Rattle.ds2_locality.specs.Verdict.{JudgedThread}
use Rattle.ds2_locality.proofs.Frame.{location_is}
use Rattle.ds2_locality.proofs.Objects.{any_in_back}
use Rattle.ds2_locality.proofs.Slots.{own_slot}
use Rattle.ds2_locality.proofs.TypedFacts.{any_front, home_typed}
use Rattle.ds2_local.specs.Verdicts.{IsTold, TellsCells}
use Rattle.ds2_local.proofs.TypedChanges.{Told, statements_fine}

-- ---- what holds of all that is declared

found_next : {A : Type 0} (P : A → Type 0) (b : Bool) (x y : A) (o : Option A) → P x → (o ≡ Some y → P y) → cond b (Some x) o ≡ Some y → P y
found_next P true x y o h later e = let same : x ≡ y = cc in subst P same h
found_next P false x y o h later e = later e

all_found : {A : Type 0} (P : A → Type 0) (test : A → Bool) (xs : List A) (y : A) → AllByRecursion P xs → find test xs ≡ Some y → P y
all_found P test [] y h e = absurd cc
all_found P test (x ∷ xs) y h e = found_next P (test x) x y (find test xs) h.0 (λ f. all_found P test xs y h.1 f) e

some_first : {A : Type 0} (b : Bool) (x : A) (o : Option A) → b ≡ true → is_some (cond b (Some x) o) ≡ true
some_first true x o e = refl
some_first false x o e = absurd (true≢false (sym e))

some_later : {A : Type 0} (b : Bool) (x : A) (o : Option A) → is_some o ≡ true → is_some (cond b (Some x) o) ≡ true
some_later true x o e = refl
some_later false x o e = e

-- what holds of each name at which something is found holds of all names
all_listed : {A : Type 0} (name_of : A → List ℕ) (P : List ℕ → Type 0) (xs : List A) → ((name : List ℕ) → is_some (find (λ x. bytes_eq (name_of x) name) xs) ≡ true → P name) → AllByRecursion (λ x. P (name_of x)) xs
all_listed name_of P [] f = tt
all_listed name_of P (x ∷ xs) f = (
  f (name_of x) (some_first (bytes_eq (name_of x) (name_of x)) x (find (λ y. bytes_eq (name_of y) (name_of x)) xs) ((bytes_eq-Decides (name_of x) (name_of x)).1 refl)),
  all_listed name_of P xs (λ name e. f name (some_later (bytes_eq (name_of x) name) x (find (λ y. bytes_eq (name_of y) name) xs) e)),
)

data_typed : (globals : Global → Option Ty) (hs : List DeclaredHash) → AreTypedHashes globals hs → AllByRecursion (λ (h : DeclaredHash). AreHashVariables globals h.data_variables) hs
data_typed globals [] typed = tt
data_typed globals (h ∷ hs) typed = (typed.0.1, data_typed globals hs typed.1)

method_typed : (globals : Global → Option Ty) (callable : Option (List ℕ) → List MethodTree) (p : UnitTree) (home : Home) (ms : List MethodTree) (n : ℕ) (m : MethodTree)
    → AreTypedMethods globals callable (objects_of p home) ms → slice_get ms n ≡ Some m → IsTypedMethod globals callable (objects_of p home) m
method_typed globals callable p home [] n m typed e = absurd cc
method_typed globals callable p home (x ∷ ms) zero m typed e = let same : x ≡ m = cc in subst (IsTypedMethod globals callable (objects_of p home)) same typed.0
method_typed globals callable p home (x ∷ ms) (suc n) m typed e = method_typed globals callable p home ms n m typed.1 e

-- ---- a typed program

module _ (t : JudgedThread) (typed : IsTypedUnit t.program) (told : ObjectsTold t) where
  abbrev slots : List Location
  slots = map location_of_slot (program_slots t.program)

  global_told : (home : Home) (g : Global) (ty : Ty) → (home_typed t.program typed home).globals g ≡ Some ty → IsTold t (global_at home g)
  global_told home g ty e = any_front (λ other. is_same_location (global_at home g) other) slots t.objects ((home_typed t.program typed home).slotted g ty e)

  object_told : (home : Home) (name : List ℕ) → list_any (λ other. is_same_location (object_at home name) other) t.objects ≡ true → IsTold t (object_at home name)
  object_told home name e = any_in_back (λ other. is_same_location (object_at home name) other) slots t.objects e

  hashes_told : (home : Home) → AllByRecursion (λ (h : DeclaredHash). IsTold t (object_at home h.name)) (objects_of t.program home).hashes
  hashes_told home = all_listed (λ (h : DeclaredHash). h.name) (λ name. IsTold t (object_at home name)) (objects_of t.program home).hashes (λ name e. object_told home name (told.hashes home name e))

  iterators_told : (home : Home) → AllByRecursion (λ (i : DeclaredIterator). IsTold t (object_at home i.name)) (objects_of t.program home).iterators
  iterators_told home =
      all_listed (λ (i : DeclaredIterator). i.name) (λ name. IsTold t (object_at home name)) (objects_of t.program home).iterators (λ name e. object_told home name (told.iterators home name e))

  hash_told : (home : Home) (name : List ℕ) (h : DeclaredHash) → hash_named (objects_of t.program home).hashes name ≡ Some h → IsTold t (object_at home h.name)
  hash_told home name h e = all_found (λ (x : DeclaredHash). IsTold t (object_at home x.name)) (λ (x : DeclaredHash). bytes_eq x.name name) (objects_of t.program home).hashes h (hashes_told home) e

  iterator_told : (home : Home) (name : List ℕ) (i : DeclaredIterator) → iterator_named (objects_of t.program home).iterators name ≡ Some i → IsTold t (object_at home i.name)
  iterator_told home name i e =
      all_found (λ (x : DeclaredIterator). IsTold t (object_at home x.name)) (λ (x : DeclaredIterator). bytes_eq x.name name) (objects_of t.program home).iterators i (iterators_told home) e

  data_told : (home : Home) (name : List ℕ) (h : DeclaredHash) → hash_named (objects_of t.program home).hashes name ≡ Some h → AreHashVariables (home_typed t.program typed home).globals h.data_variables
  data_told home name h e =
      let globals = (home_typed t.program typed home).globals in
      all_found (λ (x : DeclaredHash). AreHashVariables globals x.data_variables) (λ (x : DeclaredHash). bytes_eq x.name name) (objects_of t.program home).hashes h
      (data_typed globals (objects_of t.program home).hashes (home_typed t.program typed home).objects_typed.0) e

  method_told : (home : Home) (n : ℕ) (o : Option MethodTree) → slice_get (methods_of t.program home) n ≡ o → AllByRecursion (Told (IsTold t)) (deeds_of_method t.program home o)
  method_told home n None e = tt
  method_told home n (Some m) e =
      let h = home_typed t.program typed home in
      statements_fine (IsTold t) (names_in_method h.globals h.callable (objects_of t.program home) m) (method_scope t.program home) (global_told home) (hash_told home) (iterators_told home) (iterator_told home) (data_told home)
      (λ instance. refl) false m.body (method_typed h.globals h.callable t.program home (methods_of t.program home) n m h.methods_typed e).1

  run_told : AllByRecursion (Told (IsTold t)) (body_deeds (system_scope t.program) t.program.run.statements)
  run_told =
      statements_fine (IsTold t) (names_in_body t.program t.program.run.locals) (system_scope t.program) (global_told None) (hash_told None) (iterators_told None) (iterator_told None) (data_told None)
      (λ instance. refl) false t.program.run.statements typed.run.1

  both_told : (xs ys : List Deed) → AllByRecursion (Told (IsTold t)) xs → AllByRecursion (Told (IsTold t)) ys → AllByRecursion (Told (IsTold t)) (xs ++ ys)
  both_told [] ys g h = h
  both_told (x ∷ xs) ys g h = (g.0, both_told xs ys g.1 h)

  methods_told : (ms : List MethodAt) → AllByRecursion (Told (IsTold t)) (flat_map (method_deeds t.program) ms)
  methods_told [] = tt
  methods_told (m ∷ ms) =
      both_told (method_deeds t.program m) (flat_map (method_deeds t.program) ms) (method_told m.home m.number (slice_get (methods_of t.program m.home) m.number) refl) (methods_told ms)

  all_told : AllByRecursion (Told (IsTold t)) (run_deeds t.program)
  all_told =
      let own = body_deeds (system_scope t.program) t.program.run.statements in
      both_told own (flat_map (method_deeds t.program) (may_be_called t.program own)) run_told (methods_told (may_be_called t.program own))

  changed_next : (at : Location) (d : Deed) (rest : Bool) → Told (IsTold t) d → (rest ≡ true → IsTold t at) → (changes_location at d || rest) ≡ true → IsTold t at
  changed_next at (Change other) rest h later e = by_first (or_cases (is_same_location at other) rest e)
    where
      by_first : (is_same_location at other ≡ true) ⊎ (rest ≡ true) → IsTold t at
      by_first (inl f) = subst (IsTold t) (sym (location_is at other f)) h
      by_first (inr f) = later f
  changed_next at (Mention other) rest h later e = later e
  changed_next at (MentionObject other) rest h later e = later e
  changed_next at (CallOf m) rest h later e = later e
  changed_next at (WriteAt place) rest h later e = later e

  changed_told : (at : Location) (deeds : List Deed) → AllByRecursion (Told (IsTold t)) deeds → list_any (changes_location at) deeds ≡ true → IsTold t at
  changed_told at [] h e = absurd (true≢false (sym e))
  changed_told at (d ∷ deeds) h e = changed_next at d (list_any (changes_location at) deeds) h.0 (λ f. changed_told at deeds h.1 f) e

  flag_there : (b : Bool) → b ≡ true → flag_type b ≡ Some BigInt
  flag_there true e = refl
  flag_there false e = absurd (true≢false (sym e))

  own_told : (g : Global) → globals_of t.program g ≡ Some BigInt → IsTold t (global_at None g)
  own_told g e = any_front (λ other. is_same_location (global_at None g) other) slots t.objects (own_slot t.program g BigInt e)

  flag_told : (home : Home) (g : Global) → is_flag_of_by (bys_of t.program.reading) home g ≡ true → IsTold t (global_at home g)
  flag_told None (First name) e = own_told (First name) (flag_there (is_by (bys_of t.program.reading) name) e)
  flag_told None (Last name) e = own_told (Last name) (flag_there (is_by (bys_of t.program.reading) name) e)
  flag_told None (Named name) e = absurd (true≢false (sym e))
  flag_told None (Present name) e = absurd (true≢false (sym e))
  flag_told None (Parameter name) e = absurd (true≢false (sym e))
  flag_told (Some instance) g e = absurd (true≢false (sym e))

  -- what `run` changes and keeps is told, and so are the flags
  pub cells_are_told : TellsCells t
  cells_are_told = record {
    cells = λ at e. changed_told at (run_deeds t.program) all_told (and_parts (is_kept t.program at) (run_can_change t.program at) e).1;
    flags = λ at e. flag_told at.home at.global e;
  }
