-- The hash objects and the iterators of a typed program are seen as such: no name of a home is that of two of them.
use Rattle.std.proofs.Common.{◌≡◌, Bool, true, false, not, ◌||◌, cond, ℕ, List, [], ◌∷◌, ◌++◌, map, bytes_eq, Option, Some, None, is_some, refl, sym, ap, ◌∙◌, IsTrue}
use Rattle.std.specs.List.{AllByRecursion, list_any}
use Rattle.std.proofs.lemmas.Bool.{true≢false, or_from, or_parts, and_from, and_parts, not-true, not_from_false}
use Rattle.std.proofs.lemmas.Slice.Eq.{bytes_eq-Decides}
use Rattle.ds2_meaning.specs.declared.hashes.DeclaredHash.{DeclaredHash}
use Rattle.ds2_meaning.specs.declared.hashes.DeclaredIterator.{DeclaredIterator}
use Rattle.ds2_meaning.specs.declared.hashes.ThreadInstance.{ThreadInstance}
use Rattle.ds2_meaning.specs.HashObjects.{DeclaredObjects, hash_named, iterator_named, object_at}
use Rattle.ds2_meaning.specs.IsTyped.{are_distinct, variable_names, object_names, AreTypedInstances, IsTypedUnit}
use Rattle.ds2_meaning.specs.Location.{Home, Content, Items, Position, items_held, position_held}
use Rattle.ds2_meaning.specs.ProgramTree.{InstanceTree, UnitTree, data_vector, is_listed, instance_objects, objects_of}
use Rattle.ds2_locality.specs.KeptLocations.{seen_in_kind, seen_at}
use Rattle.ds2_locality.proofs.Frame.{ObjectsSeen}

-- ---- lists

pub all_to : {A : Type 0} (P Q : A → Type 0) → ((x : A) → P x → Q x) → (xs : List A) → AllByRecursion P xs → AllByRecursion Q xs
all_to P Q f [] h = tt
all_to P Q f (x ∷ xs) h = (f x h.0, all_to P Q f xs h.1)

pub any_in_back : {A : Type 0} (test : A → Bool) (xs ys : List A) → list_any test ys ≡ true → list_any test (xs ++ ys) ≡ true
any_in_back test [] ys e = e
any_in_back test (x ∷ xs) ys e = of (test x) (list_any test (xs ++ ys)) (any_in_back test xs ys e)
  where
    of : (a b : Bool) → b ≡ true → (a || b) ≡ true
    of true b e = refl
    of false b e = e

pub any_front_none : {A : Type 0} (test : A → Bool) (xs ys : List A) → list_any test (xs ++ ys) ≡ false → list_any test xs ≡ false
any_front_none test [] ys e = refl
any_front_none test (x ∷ xs) ys e =
    let parts = or_parts (test x) (list_any test (xs ++ ys)) e in or_from (test x) (list_any test xs) parts.0 (any_front_none test xs ys parts.1)

-- ---- distinct names

apart_by : (b : Bool) (names : List (List ℕ)) (x name : List ℕ) → bytes_eq x name ≡ b → is_listed names x ≡ false → is_listed names name ≡ true → b ≡ false
apart_by true names x name same fresh there = absurd (true≢false (sym there ∙ ap (λ k. is_listed names k) (sym ((bytes_eq-Decides x name).0 same)) ∙ fresh))
apart_by false names x name same fresh there = refl

-- of distinct names in two lists none stands in both
pub names_apart : (xs ys : List (List ℕ)) (name : List ℕ) → IsTrue (are_distinct (xs ++ ys)) → is_listed ys name ≡ true → is_listed xs name ≡ false
names_apart [] ys name distinct there = refl
names_apart (x ∷ xs) ys name distinct there =
    let parts = and_parts (not (is_listed (xs ++ ys) x)) (are_distinct (xs ++ ys)) distinct in
    or_from (bytes_eq x name) (is_listed xs name)
    (apart_by (bytes_eq x name) (xs ++ ys) x name refl (not-true (is_listed (xs ++ ys) x) parts.0) (any_in_back (λ other. bytes_eq other name) xs ys there)) (names_apart xs ys name parts.1 there)

distinct_back : (xs ys : List (List ℕ)) → IsTrue (are_distinct (xs ++ ys)) → IsTrue (are_distinct ys)
distinct_back [] ys distinct = distinct
distinct_back (x ∷ xs) ys distinct = distinct_back xs ys (and_parts (not (is_listed (xs ++ ys) x)) (are_distinct (xs ++ ys)) distinct).1

pub distinct_front : (xs ys : List (List ℕ)) → IsTrue (are_distinct (xs ++ ys)) → IsTrue (are_distinct xs)
distinct_front [] ys distinct = refl
distinct_front (x ∷ xs) ys distinct =
    let parts = and_parts (not (is_listed (xs ++ ys) x)) (are_distinct (xs ++ ys)) distinct in
    and_from (not (is_listed xs x)) (are_distinct xs)
    (not_from_false (is_listed xs x) (any_front_none (λ other. bytes_eq other x) xs ys (not-true (is_listed (xs ++ ys) x) parts.0))) (distinct_front xs ys parts.1)

-- ---- what is found by name

found_by : (b : Bool) (x h : DeclaredHash) (hs : List DeclaredHash) (name : List ℕ) → bytes_eq x.name name ≡ b → cond b (Some x) (hash_named hs name) ≡ Some h
    → (hash_named hs name ≡ Some h → bytes_eq h.name name ≡ true) → bytes_eq h.name name ≡ true
found_by true x h hs name e f later = let same : x ≡ h = cc in ap (λ (z : DeclaredHash). bytes_eq z.name name) (sym same) ∙ e
found_by false x h hs name e f later = later f

pub found_has_name : (hs : List DeclaredHash) (name : List ℕ) (h : DeclaredHash) → hash_named hs name ≡ Some h → bytes_eq h.name name ≡ true
found_has_name [] name h e = absurd cc
found_has_name (x ∷ hs) name h e = found_by (bytes_eq x.name name) x h hs name refl e (λ f. found_has_name hs name h f)

pub hash_there : (hs : List DeclaredHash) (name : List ℕ) (h : DeclaredHash) → hash_named hs name ≡ Some h → is_some (hash_named hs h.name) ≡ true
hash_there hs name h e = ap (λ n. is_some (hash_named hs n)) ((bytes_eq-Decides h.name name).0 (found_has_name hs name h e)) ∙ ap is_some e

more_by : {A : Type 0} (b : Bool) (x : A) (o : Option A) → is_some o ≡ true → is_some (cond b (Some x) o) ≡ true
more_by true x o h = refl
more_by false x o h = h

itself_by : {A : Type 0} (b : Bool) (x : A) (o : Option A) → b ≡ true → is_some (cond b (Some x) o) ≡ true
itself_by true x o h = refl
itself_by false x o h = absurd (true≢false (sym h))

iterators_there : (is : List DeclaredIterator) → AllByRecursion (λ (i : DeclaredIterator). is_some (iterator_named is i.name) ≡ true) is
iterators_there [] = tt
iterators_there (i ∷ is) = (
  itself_by (bytes_eq i.name i.name) i (iterator_named is i.name) ((bytes_eq-Decides i.name i.name).1 refl),
  all_to (λ (k : DeclaredIterator). is_some (iterator_named is k.name) ≡ true) (λ (k : DeclaredIterator). is_some (iterator_named (i ∷ is) k.name) ≡ true)
      (λ k h. more_by (bytes_eq i.name k.name) i (iterator_named is k.name) h) is (iterators_there is),
)

-- the names of hash objects and of iterators
abbrev hash_names : List DeclaredHash → List (List ℕ)
hash_names hs = map (λ (h : DeclaredHash). h.name) hs

abbrev iterator_names : List DeclaredIterator → List (List ℕ)
iterator_names is = map (λ (i : DeclaredIterator). i.name) is

not_there_by : {A : Type 0} (b : Bool) (x : A) (o : Option A) → b ≡ false → is_some o ≡ false → is_some (cond b (Some x) o) ≡ false
not_there_by true x o e h = absurd (true≢false e)
not_there_by false x o e h = h

pub no_hash_named : (hs : List DeclaredHash) (name : List ℕ) → is_listed (hash_names hs) name ≡ false → is_some (hash_named hs name) ≡ false
no_hash_named [] name e = refl
no_hash_named (h ∷ hs) name e =
    let parts = or_parts (bytes_eq h.name name) (is_listed (hash_names hs) name) e in
    not_there_by (bytes_eq h.name name) h (hash_named hs name) parts.0 (no_hash_named hs name parts.1)

listed_more : (x : List ℕ) (names : List (List ℕ)) (name : List ℕ) → is_listed names name ≡ true → is_listed (x ∷ names) name ≡ true
listed_more x names name e = any_in_back (λ other. bytes_eq other name) (x ∷ []) names e

iterators_listed : (is : List DeclaredIterator) → AllByRecursion (λ (i : DeclaredIterator). is_listed (iterator_names is) i.name ≡ true) is
iterators_listed [] = tt
iterators_listed (i ∷ is) = (
  first (bytes_eq i.name i.name) (is_listed (iterator_names is) i.name) ((bytes_eq-Decides i.name i.name).1 refl),
  all_to (λ (k : DeclaredIterator). is_listed (iterator_names is) k.name ≡ true) (λ (k : DeclaredIterator). is_listed (iterator_names (i ∷ is)) k.name ≡ true)
      (λ k h. listed_more i.name (iterator_names is) k.name h) is (iterators_listed is),
)
  where
    first : (a b : Bool) → a ≡ true → (a || b) ≡ true
    first true b e = refl
    first false b e = absurd (true≢false (sym e))

-- ---- the objects of a home

objects_apart : (objects : DeclaredObjects) → IsTrue (are_distinct (object_names objects)) → AllByRecursion (λ (i : DeclaredIterator). is_some (hash_named objects.hashes i.name) ≡ false) objects.iterators
objects_apart objects distinct =
    all_to (λ (i : DeclaredIterator). is_listed (iterator_names objects.iterators) i.name ≡ true) (λ (i : DeclaredIterator). is_some (hash_named objects.hashes i.name) ≡ false)
    (λ i h. no_hash_named objects.hashes i.name (names_apart (hash_names objects.hashes) (iterator_names objects.iterators) i.name distinct h)) objects.iterators (iterators_listed objects.iterators)

instances_distinct : (instances : List InstanceTree) (name : List ℕ) → AreTypedInstances instances → IsTrue (are_distinct (object_names (instance_objects instances name)))
instances_distinct [] name typed = refl
instances_distinct (i ∷ instances) name typed =
    of (bytes_eq i.name name) (distinct_back (variable_names i.variables) (object_names i.objects) typed.1) (instances_distinct instances name typed.4)
  where
    of : (b : Bool) → IsTrue (are_distinct (object_names i.objects)) → IsTrue (are_distinct (object_names (instance_objects instances name)))
        → IsTrue (are_distinct (object_names (cond b i.objects (instance_objects instances name))))
    of true e f = e
    of false e f = f

module _ (p : UnitTree) (typed : IsTypedUnit p) where
  own_distinct : IsTrue (are_distinct (object_names p.objects))
  own_distinct =
      let instances = map (λ (i : InstanceTree). i.name) p.instances in
      let threads = map (λ (i : ThreadInstance). i.name) p.threads in
      let own = variable_names (data_vector p) ++ object_names p.objects in
      distinct_back (variable_names (data_vector p)) (object_names p.objects) (distinct_front own instances (distinct_front (own ++ instances) threads typed.names))

  home_distinct : (home : Home) → IsTrue (are_distinct (object_names (objects_of p home)))
  home_distinct None = own_distinct
  home_distinct (Some name) = instances_distinct p.instances name typed.instances

  seen_hash : (home : Home) (name : List ℕ) → is_some (hash_named (objects_of p home).hashes name) ≡ true → (c : Content) → seen_at p (object_at home name) c ≡ Items (items_held c)
  seen_hash home name e c = ap (λ b. seen_in_kind b (is_some (iterator_named (objects_of p home).iterators name)) c) e

  seen_iterator : (home : Home) (name : List ℕ) → is_some (hash_named (objects_of p home).hashes name) ≡ false → is_some (iterator_named (objects_of p home).iterators name) ≡ true
      → (c : Content) → seen_at p (object_at home name) c ≡ Position (position_held c)
  seen_iterator home name e f c = ap (λ b. seen_in_kind b (is_some (iterator_named (objects_of p home).iterators name)) c) e ∙ ap (λ b. seen_in_kind false b c) f

  both_all : (home : Home) (is : List DeclaredIterator) → AllByRecursion (λ (i : DeclaredIterator). is_some (hash_named (objects_of p home).hashes i.name) ≡ false) is
      → AllByRecursion (λ (i : DeclaredIterator). is_some (iterator_named (objects_of p home).iterators i.name) ≡ true) is
      → AllByRecursion (λ (i : DeclaredIterator). (c : Content) → seen_at p (object_at home i.name) c ≡ Position (position_held c)) is
  both_all home [] g h = tt
  both_all home (i ∷ is) g h = (seen_iterator home i.name g.0 h.0, both_all home is g.1 h.1)

  pub objects_are_seen : ObjectsSeen p
  objects_are_seen = record {
    hashes = λ home name h e c. seen_hash home h.name (hash_there (objects_of p home).hashes name h e) c;
    iterators = λ home. both_all home (objects_of p home).iterators (objects_apart (objects_of p home) (home_distinct home)) (iterators_there (objects_of p home).iterators);
  }
