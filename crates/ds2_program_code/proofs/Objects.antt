-- The hash objects and iterators of a typed unit have their numbers in its code.
use Rattle.std.proofs.Common.{◌≡◌, ◌⊎◌, inl, inr, ℕ, zero, suc, nat_eq, Bool, true, false, not, ◌&&◌, ◌||◌, cond, List, [], ◌∷◌, ◌++◌, length, map, flat_map, slice_get, bytes_eq, Option, Some, None, unwrap_or, refl, sym, ap, ◌∙◌, subst, IsTrue, is_some, eq-eqb, if◌then◌else◌}
use Rattle.std.specs.List.{list_any, find}
use Rattle.std.specs.Option.{option_map}
use Rattle.std.proofs.lemmas.Bool.{true≢false, or_from, or_parts, and_from, and_left, and_right, and_parts, not-true, false_from_ne_true, ne_eqb}
use Rattle.std.proofs.lemmas.Slice.Eq.{bytes_eq-Decides}
use Rattle.ds2_value.specs.declared.ty.Ty.{Ty}
use Rattle.ds2_meaning.specs.declared.globals.Variable.{Variable}
use Rattle.ds2_meaning.specs.declared.hashes.DeclaredHash.{DeclaredHash}
use Rattle.ds2_meaning.specs.declared.hashes.DeclaredIterator.{DeclaredIterator}
use Rattle.ds2_meaning.specs.declared.hashes.HashVariable.{HashVariable}
use Rattle.ds2_meaning.specs.declared.location.Global.{Global}
use Rattle.ds2_meaning.specs.declared.location.Global.TheVariants.{Named, First, Last, Present, Parameter}
use Rattle.ds2_meaning.specs.HashObjects.{DeclaredObjects, hash_named, iterator_named, object_at}
use Rattle.ds2_meaning.specs.IsTyped.{are_distinct, variable_names, AreHashVariables, AreTypedHashes, AreTypedIterators, AreTypedObjects, AreTypedInstances, IsTypedUnit, package_globals, instance_variables}
use Rattle.ds2_meaning.specs.Location.{Home, Location, is_same_home, is_same_global, is_same_location}
use Rattle.ds2_meaning.specs.ProgramTree.{InstanceTree, UnitTree, is_listed, instance_objects, objects_of}
use Rattle.ds2_code.specs.declared.parts.HashPart.{HashPart}
use Rattle.ds2_code.specs.declared.parts.ProgramParts.{ProgramParts}
use Rattle.ds2_gen.specs.CodeCells.{Nameable, GlobalAt, LocalNamed, CodeCell, SlotCell, LocalCell, HashCell, IteratorCell, ParameterCell, Placement, IsValueCell}
use Rattle.ds2_gen.specs.CoveredObjects.{AreVariableSlots, iterator_names, is_walking, walks_hash, IsWalker, IteratorsFit, HasHash, HasIterator}
use Rattle.ds2_gen.specs.ExpressionCode.{CodeNumbers}
use Rattle.ds2_program_code.specs.PlacedProgram.{number_of_first, number_of_location, slot_locations, hashes_at, iterators_at, hash_locations, iterator_locations, parameter_locations, first_cell, program_cell}
use Rattle.ds2_program_code.specs.CodeConstants.{constant_number}
use Rattle.ds2_program_code.specs.CodeMethods.{callee_of}
use Rattle.ds2_program_code.specs.CodeParts.{variable_slots, hash_part, hash_parts, walked_hash, iterator_parts}
use Rattle.ds2_program_code.specs.ProgramCode.{code_constants, body_numbers, program_code}
use Rattle.ds2_program_code.proofs.Lists.{same_some, bytes_swap, bytes_self, any_in_front, any_in_back, none_mapped, no_number, number_passes, slice_mapped, any_at, Beside, beside_here, beside_later}
use Rattle.ds2_program_code.proofs.Homes.{UnitHome, instance_home, homes_of, home_in, home_self, home_equal, TypedHome, AreTypedHomes, only_there, beside_there, place_of_number, names_apart, distinct_back, homes_apart, homes_typed, AtHome, NoHome, at_home}
use Rattle.ds2_program_code.proofs.Slots.{located, globals_at, later_cell, slot_cell, no_slot_for_object}

-- ---- locations

global_equal : (a b : Global) → is_same_global a b ≡ true → a ≡ b
global_equal (Named a) (Named b) e = ap Named ((bytes_eq-Decides a b).0 e)
global_equal (First a) (First b) e = ap First ((bytes_eq-Decides a b).0 e)
global_equal (Last a) (Last b) e = ap Last ((bytes_eq-Decides a b).0 e)
global_equal (Present a) (Present b) e = ap Present ((bytes_eq-Decides a b).0 e)
global_equal (Parameter a) (Parameter b) e = ap Parameter ((bytes_eq-Decides a b).0 e)
global_equal _ _ e = absurd (true≢false (sym e))

parts_equal : (a b : Location) → a.home ≡ b.home → a.global ≡ b.global → located a.home a.global ≡ located b.home b.global
parts_equal a b h g = ap (λ x. located x a.global) h ∙ ap (λ x. located b.home x) g

pub location_equal : (a b : Location) → is_same_location a b ≡ true → a ≡ b
location_equal a b e =
    let parts = and_parts (is_same_home a.home b.home) (is_same_global a.global b.global) e in
    parts_equal a b (home_equal a.home b.home parts.0) (global_equal a.global b.global parts.1)

self_by : (home : Home) (global : Global) → is_same_location (located home global) (located home global) ≡ true
self_by home (Named a) = and_from (is_same_home home home) (bytes_eq a a) (home_self home) (bytes_self a)
self_by home (First a) = and_from (is_same_home home home) (bytes_eq a a) (home_self home) (bytes_self a)
self_by home (Last a) = and_from (is_same_home home home) (bytes_eq a a) (home_self home) (bytes_self a)
self_by home (Present a) = and_from (is_same_home home home) (bytes_eq a a) (home_self home) (bytes_self a)
self_by home (Parameter a) = and_from (is_same_home home home) (bytes_eq a a) (home_self home) (bytes_self a)

pub location_self : (a : Location) → is_same_location a a ≡ true
location_self a = self_by a.home a.global

one_place : (locations : List Location) (a b : Location) (n : ℕ) → number_of_location locations a ≡ Some n → number_of_location locations b ≡ Some n → a ≡ b
one_place locations a b n e f =
    let first = number_passes (λ other. is_same_location a other) locations n e in
    let second = number_passes (λ other. is_same_location b other) locations n f in
    location_equal a first.0 first.2 ∙ same_some first.0 second.0 (sym first.1 ∙ second.1) ∙ sym (location_equal b second.0 second.2)

numbers_by : (same : Bool) (locations : List Location) (a b : Location) (n m : ℕ) → is_same_location a b ≡ same → number_of_location locations a ≡ Some n → number_of_location locations b ≡ Some m → nat_eq n m ≡ same
numbers_by true locations a b n m same e f =
    eq-eqb n m (same_some n m (sym e ∙ ap (λ x. number_of_location locations x) (location_equal a b same) ∙ f))
numbers_by false locations a b n m same e f =
    ne_eqb n m (λ one. true≢false (sym (location_self a) ∙ ap (λ x. is_same_location a x) (one_place locations a b n e (f ∙ ap (λ k. Some k) (sym one))) ∙ same))

-- the numbers of two locations are one where the locations are
pub numbers_tell : (locations : List Location) (a b : Location) (n m : ℕ) → number_of_location locations a ≡ Some n → number_of_location locations b ≡ Some m → nat_eq n m ≡ is_same_location a b
numbers_tell locations a b n m e f = numbers_by (is_same_location a b) locations a b n m refl e f

-- ---- items with names

module _ {A : Type 0} (name_of : A → List ℕ) where
  item_listed_by : (b rest : Bool) (x d : A) (o : Option A) → cond b (Some x) o ≡ Some d → (o ≡ Some d → rest ≡ true) → (b || rest) ≡ true
  item_listed_by true rest x d o e later = refl
  item_listed_by false rest x d o e later = later e

  item_listed : (xs : List A) (name : List ℕ) (d : A) → find (λ (a : A). bytes_eq (name_of a) name) xs ≡ Some d → is_listed (map name_of xs) name ≡ true
  item_listed [] name d e = absurd cc
  item_listed (x ∷ xs) name d e =
      item_listed_by (bytes_eq (name_of x) name) (is_listed (map name_of xs) name) x d (find (λ (a : A). bytes_eq (name_of a) name) xs) e (λ f. item_listed xs name d f)

  item_free : (home other : Home) (xs : List A) (name : List ℕ) → is_listed (map name_of xs) name ≡ false → list_any (λ l. is_same_location (object_at home name) l) (map (λ (a : A). object_at other (name_of a)) xs) ≡ false
  item_free home other [] name e = refl
  item_free home other (x ∷ xs) name e =
      let parts = or_parts (bytes_eq (name_of x) name) (is_listed (map name_of xs) name) e in
      or_from (is_same_home home other && bytes_eq name (name_of x)) (list_any (λ l. is_same_location (object_at home name) l) (map (λ (a : A). object_at other (name_of a)) xs))
      (and_right (is_same_home home other) (bytes_eq name (name_of x)) (bytes_swap name (name_of x) ∙ parts.0)) (item_free home other xs name parts.1)

  module _ {Y : Type 0} (home : Home) (part : A → Y) (name : List ℕ) where
    item_by : (b : Bool) (x d : A) (xs : List A) → bytes_eq (name_of x) name ≡ b → cond b (Some x) (find (λ (a : A). bytes_eq (name_of a) name) xs) ≡ Some d
        → (find (λ (a : A). bytes_eq (name_of a) name) xs ≡ Some d → Beside (λ l. is_same_location (object_at home name) l) (map (λ (a : A). object_at home (name_of a)) xs) (map part xs) (part d))
        → Beside (λ l. is_same_location (object_at home name) l) (object_at home (name_of x) ∷ map (λ (a : A). object_at home (name_of a)) xs) (part x ∷ map part xs) (part d)
    item_by true x d xs same found later =
        subst (λ (z : A). Beside (λ l. is_same_location (object_at home name) l) (object_at home (name_of x) ∷ map (λ (a : A). object_at home (name_of a)) xs) (part x ∷ map part xs) (part z)) (same_some x d found)
        (beside_here (λ l. is_same_location (object_at home name) l) (object_at home (name_of x)) (map (λ (a : A). object_at home (name_of a)) xs) (part x) (map part xs)
        (and_from (is_same_home home home) (bytes_eq name (name_of x)) (home_self home) (bytes_swap name (name_of x) ∙ same)))
    item_by false x d xs same found later =
        beside_later (λ l. is_same_location (object_at home name) l) (object_at home (name_of x)) (map (λ (a : A). object_at home (name_of a)) xs) (part x) (map part xs) (part d)
        (and_right (is_same_home home home) (bytes_eq name (name_of x)) (bytes_swap name (name_of x) ∙ same)) (later found)

    item_beside : (xs : List A) (d : A) → find (λ (a : A). bytes_eq (name_of a) name) xs ≡ Some d
        → Beside (λ l. is_same_location (object_at home name) l) (map (λ (a : A). object_at home (name_of a)) xs) (map part xs) (part d)
    item_beside [] d e = absurd cc
    item_beside (x ∷ xs) d e = item_by (bytes_eq (name_of x) name) x d xs refl e (λ f. item_beside xs d f)

pub mapped_lengths : {A X Y : Type 0} (f : A → X) (g : A → Y) (xs : List A) → length (map f xs) ≡ length (map g xs)
mapped_lengths f g [] = refl
mapped_lengths f g (x ∷ xs) = ap (λ n. suc n) (mapped_lengths f g xs)

flat_mapped : {A B X : Type 0} (f : B → List X) (h : A → B) (xs : List A) → flat_map f (map h xs) ≡ flat_map (λ x. f (h x)) xs
flat_mapped f h [] = refl
flat_mapped f h (x ∷ xs) = ap (λ rest. f (h x) ++ rest) (flat_mapped f h xs)

-- ---- the lists of a program

abbrev pub hashes_of_home : UnitHome → List Location
hashes_of_home u = hashes_at u.home u.objects

abbrev iterators_of_home : UnitHome → List Location
iterators_of_home u = iterators_at u.home u.objects

-- the parts of one home
abbrev pub hash_parts_of : UnitTree → UnitHome → List HashPart
hash_parts_of p u = map (hash_part p u.home) u.objects.hashes

abbrev pub iterator_parts_of : UnitTree → UnitHome → List ℕ
iterator_parts_of p u = map (walked_hash p u.home) u.objects.iterators

module _ (p : UnitTree) where
  pub hash_locations_by_home : hash_locations p ≡ flat_map hashes_of_home (homes_of p)
  hash_locations_by_home = ap (λ rest. hashes_at None p.objects ++ rest) (sym (flat_mapped hashes_of_home instance_home p.instances))

  iterator_locations_by_home : iterator_locations p ≡ flat_map iterators_of_home (homes_of p)
  iterator_locations_by_home = ap (λ rest. iterators_at None p.objects ++ rest) (sym (flat_mapped iterators_of_home instance_home p.instances))

  pub hash_parts_by_home : hash_parts p ≡ flat_map (hash_parts_of p) (homes_of p)
  hash_parts_by_home = ap (λ rest. map (hash_part p None) p.objects.hashes ++ rest) (sym (flat_mapped (hash_parts_of p) instance_home p.instances))

  pub iterator_parts_by_home : iterator_parts p ≡ flat_map (iterator_parts_of p) (homes_of p)
  iterator_parts_by_home = ap (λ rest. map (walked_hash p None) p.objects.iterators ++ rest) (sym (flat_mapped (iterator_parts_of p) instance_home p.instances))

-- ---- one home of a typed program

typed_found_by : (b : Bool) (v u : UnitHome) (vs : List UnitHome) (home : Home) → cond b (Some v) (home_in vs home) ≡ Some u → AreTypedHomes (v ∷ vs) → (home_in vs home ≡ Some u → TypedHome u) → TypedHome u
typed_found_by true v u vs home e typed later = subst (λ (w : UnitHome). TypedHome w) (same_some v u e) typed.0
typed_found_by false v u vs home e typed later = later e

pub typed_found : (us : List UnitHome) (u : UnitHome) (home : Home) → AreTypedHomes us → home_in us home ≡ Some u → TypedHome u
typed_found [] u home typed e = absurd cc
typed_found (v ∷ vs) u home typed e = typed_found_by (is_same_home home v.home) v u vs home e typed (λ f. typed_found vs u home typed.1 f)

other_home : {A : Type 0} (name_of : A → List ℕ) (items : UnitHome → List A) (home : Home) (name : List ℕ) (v : UnitHome) → is_same_home home v.home ≡ false
    → list_any (λ l. is_same_location (object_at home name) l) (map (λ (a : A). object_at v.home (name_of a)) (items v)) ≡ false
other_home name_of items home name v e =
    none_mapped (λ l. is_same_location (object_at home name) l) (λ a. object_at v.home (name_of a)) (items v) (λ a. and_left (is_same_home home v.home) (bytes_eq name (name_of a)) e)

module _ (p : UnitTree) (typed : IsTypedUnit p) (u : UnitHome) (looked : home_in (homes_of p) u.home ≡ Some u) where
  home_typed : TypedHome u
  home_typed = typed_found (homes_of p) u u.home (homes_typed p typed) looked

  pub hash_beside : (name : List ℕ) (d : DeclaredHash) → hash_named u.objects.hashes name ≡ Some d
      → Beside (λ l. is_same_location (object_at u.home name) l) (hash_locations p) (hash_parts p) (hash_part p u.home d)
  hash_beside name d e =
      let test : Location → Bool = λ l. is_same_location (object_at u.home name) l in
      let y = hash_part p u.home d in
      subst (λ l. Beside test l (hash_parts p) y) (sym (hash_locations_by_home p))
      (subst (λ l. Beside test (flat_map hashes_of_home (homes_of p)) l y) (sym (hash_parts_by_home p))
      (beside_there test hashes_of_home u.home (λ v other. other_home (λ (h : DeclaredHash). h.name) (λ (w : UnitHome). w.objects.hashes) u.home name v other) (hash_parts_of p)
      (λ v. mapped_lengths (λ (h : DeclaredHash). object_at v.home h.name) (hash_part p v.home) v.objects.hashes) y (homes_of p) u looked
      (item_beside (λ (h : DeclaredHash). h.name) u.home (hash_part p u.home) name u.objects.hashes d e)))

  pub iterator_beside : (name : List ℕ) (d : DeclaredIterator) → iterator_named u.objects.iterators name ≡ Some d
      → Beside (λ l. is_same_location (object_at u.home name) l) (iterator_locations p) (iterator_parts p) (walked_hash p u.home d)
  iterator_beside name d e =
      let test : Location → Bool = λ l. is_same_location (object_at u.home name) l in
      let y = walked_hash p u.home d in
      subst (λ l. Beside test l (iterator_parts p) y) (sym (iterator_locations_by_home p))
      (subst (λ l. Beside test (flat_map iterators_of_home (homes_of p)) l y) (sym (iterator_parts_by_home p))
      (beside_there test iterators_of_home u.home (λ v other. other_home (λ (i : DeclaredIterator). i.name) (λ (w : UnitHome). w.objects.iterators) u.home name v other) (iterator_parts_of p)
      (λ v. mapped_lengths (λ (i : DeclaredIterator). object_at v.home i.name) (walked_hash p v.home) v.objects.iterators) y (homes_of p) u looked
      (item_beside (λ (i : DeclaredIterator). i.name) u.home (walked_hash p u.home) name u.objects.iterators d e)))

  -- names of objects are no others
  hash_fresh : (name : List ℕ) (d : DeclaredHash) → hash_named u.objects.hashes name ≡ Some d → is_listed (variable_names u.variables) name ≡ false
  hash_fresh name d e =
      let hashes = map (λ (h : DeclaredHash). h.name) u.objects.hashes in
      let iterators = map (λ (i : DeclaredIterator). i.name) u.objects.iterators in
      names_apart (variable_names u.variables) (hashes ++ iterators) name home_typed.distinct
      (any_in_front (λ other. bytes_eq other name) hashes iterators (item_listed (λ (h : DeclaredHash). h.name) u.objects.hashes name d e))

  iterator_fresh : (name : List ℕ) (d : DeclaredIterator) → iterator_named u.objects.iterators name ≡ Some d → is_listed (variable_names u.variables) name ≡ false
  iterator_fresh name d e =
      let hashes = map (λ (h : DeclaredHash). h.name) u.objects.hashes in
      let iterators = map (λ (i : DeclaredIterator). i.name) u.objects.iterators in
      names_apart (variable_names u.variables) (hashes ++ iterators) name home_typed.distinct
      (any_in_back (λ other. bytes_eq other name) hashes iterators (item_listed (λ (i : DeclaredIterator). i.name) u.objects.iterators name d e))

  iterator_no_hash : (name : List ℕ) (d : DeclaredIterator) → iterator_named u.objects.iterators name ≡ Some d → is_listed (map (λ (h : DeclaredHash). h.name) u.objects.hashes) name ≡ false
  iterator_no_hash name d e =
      let hashes = map (λ (h : DeclaredHash). h.name) u.objects.hashes in
      let iterators = map (λ (i : DeclaredIterator). i.name) u.objects.iterators in
      names_apart hashes iterators name (distinct_back (variable_names u.variables) (hashes ++ iterators) home_typed.distinct)
      (item_listed (λ (i : DeclaredIterator). i.name) u.objects.iterators name d e)

  iterators_distinct : IsTrue (are_distinct (iterator_names u.objects.iterators))
  iterators_distinct =
      let hashes = map (λ (h : DeclaredHash). h.name) u.objects.hashes in
      let iterators = map (λ (i : DeclaredIterator). i.name) u.objects.iterators in
      distinct_back hashes iterators (distinct_back (variable_names u.variables) (hashes ++ iterators) home_typed.distinct)

  -- ---- cells

  hash_cell : (name : List ℕ) (d : DeclaredHash) (e : hash_named u.objects.hashes name ≡ Some d) → program_cell p (object_at u.home name) ≡ Some (HashCell (hash_beside name d e).0)
  hash_cell name d e =
      let at = object_at u.home name in
      ap (λ o. first_cell (option_map SlotCell o) (later_cell p at)) (no_number (λ l. is_same_location at l) (slot_locations p) (no_slot_for_object p typed u.home u name looked (hash_fresh name d e)))
      ∙ ap (λ o. first_cell (option_map HashCell o) (first_cell (option_map IteratorCell (number_of_location (iterator_locations p) at)) (option_map ParameterCell (number_of_location (parameter_locations p) at)))) (hash_beside name d e).1

  no_hash_there : (name : List ℕ) (d : DeclaredIterator) → iterator_named u.objects.iterators name ≡ Some d → list_any (λ l. is_same_location (object_at u.home name) l) (hash_locations p) ≡ false
  no_hash_there name d e =
      let test : Location → Bool = λ l. is_same_location (object_at u.home name) l in
      subst (λ l. list_any test l ≡ false) (sym (hash_locations_by_home p))
      (only_there test hashes_of_home u.home (λ v other. other_home (λ (h : DeclaredHash). h.name) (λ (w : UnitHome). w.objects.hashes) u.home name v other) (homes_of p) u (homes_apart p typed) looked
      (item_free (λ (h : DeclaredHash). h.name) u.home u.home u.objects.hashes name (iterator_no_hash name d e)))

  iterator_cell : (name : List ℕ) (d : DeclaredIterator) (e : iterator_named u.objects.iterators name ≡ Some d) → program_cell p (object_at u.home name) ≡ Some (IteratorCell (iterator_beside name d e).0)
  iterator_cell name d e =
      let at = object_at u.home name in
      ap (λ o. first_cell (option_map SlotCell o) (later_cell p at)) (no_number (λ l. is_same_location at l) (slot_locations p) (no_slot_for_object p typed u.home u name looked (iterator_fresh name d e)))
      ∙ ap (λ o. first_cell (option_map HashCell o) (first_cell (option_map IteratorCell (number_of_location (iterator_locations p) at)) (option_map ParameterCell (number_of_location (parameter_locations p) at))))
      (no_number (λ l. is_same_location at l) (hash_locations p) (no_hash_there name d e))
      ∙ ap (λ o. first_cell (option_map IteratorCell o) (option_map ParameterCell (number_of_location (parameter_locations p) at))) (iterator_beside name d e).1

-- the hash object that an iterator walks is there
pub some_of : {X : Type 0} (o : Option X) → is_some o ≡ true → (x : X) × (o ≡ Some x)
some_of None e = absurd (true≢false (sym e))
some_of (Some x) e = (x, refl)

walks_by : (b : Bool) (hashes : List DeclaredHash) (j i : DeclaredIterator) (o : Option DeclaredIterator) → cond b (Some j) o ≡ Some i → IsTrue (is_some (hash_named hashes j.hash)) → (o ≡ Some i → IsTrue (is_some (hash_named hashes i.hash)))
    → IsTrue (is_some (hash_named hashes i.hash))
walks_by true hashes j i o e here later = subst (λ (k : DeclaredIterator). IsTrue (is_some (hash_named hashes k.hash))) (same_some j i e) here
walks_by false hashes j i o e here later = later e

walked_there : (hashes : List DeclaredHash) (iterators : List DeclaredIterator) (name : List ℕ) (i : DeclaredIterator) → AreTypedIterators hashes iterators → iterator_named iterators name ≡ Some i → IsTrue (is_some (hash_named hashes i.hash))
walked_there hashes [] name i typed e = absurd cc
walked_there hashes (j ∷ iterators) name i typed e = walks_by (bytes_eq j.name name) hashes j i (iterator_named iterators name) e typed.0 (λ f. walked_there hashes iterators name i typed.1 f)

pub walked_at : (hashes : List DeclaredHash) (iterators : List DeclaredIterator) (k : ℕ) (i : DeclaredIterator) → AreTypedIterators hashes iterators → slice_get iterators k ≡ Some i → IsTrue (is_some (hash_named hashes i.hash))
walked_at hashes [] k i typed e = absurd cc
walked_at hashes (j ∷ iterators) zero i typed e = subst (λ (x : DeclaredIterator). IsTrue (is_some (hash_named hashes x.hash))) (same_some j i e) typed.0
walked_at hashes (j ∷ iterators) (suc k) i typed e = walked_at hashes iterators k i typed.1 e

-- ---- which iterators walk a hash object

or_false : (a : Bool) → (a || false) ≡ a
or_false true = refl
or_false false = refl

walk_first : (s h r : Bool) → s ≡ true → r ≡ false → ((s && h) || r) ≡ h
walk_first s h r e f = ap (λ x. (x && h) || r) e ∙ ap (λ x. h || x) f ∙ or_false h

walk_later : (s h r : Bool) → s ≡ false → ((s && h) || r) ≡ r
walk_later s h r e = ap (λ x. (x && h) || r) e

nothing_walks : (home : Home) (hash : List ℕ) (iterators : List DeclaredIterator) (at : Location) → list_any (λ l. is_same_location at l) (iterators_at home (record { hashes = []; iterators = iterators })) ≡ false
    → is_walking home hash iterators at ≡ false
nothing_walks home hash [] at e = refl
nothing_walks home hash (i ∷ iterators) at e =
    let parts = or_parts (is_same_location at (object_at home i.name)) (list_any (λ l. is_same_location at l) (iterators_at home (record { hashes = []; iterators = iterators }))) e in
    walk_later (is_same_location at (object_at home i.name)) (bytes_eq i.hash hash) (is_walking home hash iterators at) parts.0 ∙ nothing_walks home hash iterators at parts.1

named_by : (b : Bool) (home : Home) (hash name : List ℕ) (j i : DeclaredIterator) (iterators : List DeclaredIterator) → bytes_eq j.name name ≡ b → cond b (Some j) (iterator_named iterators name) ≡ Some i
    → is_listed (iterator_names iterators) j.name ≡ false → (iterator_named iterators name ≡ Some i → is_walking home hash iterators (object_at home name) ≡ bytes_eq i.hash hash)
    → is_walking home hash (j ∷ iterators) (object_at home name) ≡ bytes_eq i.hash hash
named_by true home hash name j i iterators same found fresh later =
    let here = and_from (is_same_home home home) (bytes_eq name j.name) (home_self home) (bytes_swap name j.name ∙ same) in
    let alone = item_free (λ (k : DeclaredIterator). k.name) home home iterators name (ap (λ n. is_listed (iterator_names iterators) n) (sym ((bytes_eq-Decides j.name name).0 same)) ∙ fresh) in
    walk_first (is_same_location (object_at home name) (object_at home j.name)) (bytes_eq j.hash hash) (is_walking home hash iterators (object_at home name)) here (nothing_walks home hash iterators (object_at home name) alone)
    ∙ ap (λ (k : DeclaredIterator). bytes_eq k.hash hash) (same_some j i found)
named_by false home hash name j i iterators same found fresh later =
    walk_later (is_same_location (object_at home name) (object_at home j.name)) (bytes_eq j.hash hash) (is_walking home hash iterators (object_at home name))
    (and_right (is_same_home home home) (bytes_eq name j.name) (bytes_swap name j.name ∙ same)) ∙ later found

walks_named : (home : Home) (hash name : List ℕ) (i : DeclaredIterator) (iterators : List DeclaredIterator) → IsTrue (are_distinct (iterator_names iterators)) → iterator_named iterators name ≡ Some i
    → is_walking home hash iterators (object_at home name) ≡ bytes_eq i.hash hash
walks_named home hash name i [] distinct e = absurd cc
walks_named home hash name i (j ∷ iterators) distinct e =
    let parts = and_parts (not (is_listed (iterator_names iterators) j.name)) (are_distinct (iterator_names iterators)) distinct in
    named_by (bytes_eq j.name name) home hash name j i iterators refl e (not-true (is_listed (iterator_names iterators) j.name) parts.0) (λ f. walks_named home hash name i iterators parts.1 f)

-- an iterator at a location
record NamedAt (home : Home) (iterators : List DeclaredIterator) (at : Location) : Type 0 where
  name : List ℕ
  iterator : DeclaredIterator
  where_ : at ≡ object_at home name
  found : iterator_named iterators name ≡ Some iterator

found_again : (b : Bool) (j i : DeclaredIterator) (o : Option DeclaredIterator) → o ≡ Some i → (k : DeclaredIterator) × (cond b (Some j) o ≡ Some k)
found_again true j i o e = (j, refl)
found_again false j i o e = (i, e)

named_at_by : (b : Bool) (home : Home) (j : DeclaredIterator) (iterators : List DeclaredIterator) (at : Location) (rest : Bool) → is_same_location at (object_at home j.name) ≡ b → (b || rest) ≡ true → (rest ≡ true → NamedAt home iterators at) → NamedAt home (j ∷ iterators) at
named_at_by true home j iterators at rest same e later = record {
  name = j.name;
  iterator = j;
  where_ = location_equal at (object_at home j.name) same;
  found = ap (λ b. cond b (Some j) (iterator_named iterators j.name)) (bytes_self j.name);
}
named_at_by false home j iterators at rest same e later =
    let it = later e in
    let again = found_again (bytes_eq j.name it.name) j it.iterator (iterator_named iterators it.name) it.found in
    record { name = it.name; iterator = again.0; where_ = it.where_; found = again.1 }

named_at : (home : Home) (iterators : List DeclaredIterator) (at : Location) → list_any (λ l. is_same_location at l) (map (λ (i : DeclaredIterator). object_at home i.name) iterators) ≡ true → NamedAt home iterators at
named_at home [] at e = absurd (true≢false (sym e))
named_at home (j ∷ iterators) at e =
    named_at_by (is_same_location at (object_at home j.name)) home j iterators at (list_any (λ l. is_same_location at l) (map (λ (i : DeclaredIterator). object_at home i.name) iterators)) refl e (λ f. named_at home iterators at f)

-- ---- hash objects and iterators in code

-- a placement keeps the globals of a program where the program does, keeps locals in cells of values, and reserves no iterator
pub record HomePlacement (p : UnitTree) (placement : Placement) : Type 0 where
  pub globals : (at : Location) → placement.cell (GlobalAt at) ≡ program_cell p at
  pub locals : (name : List ℕ) (c : CodeCell) → placement.cell (LocalNamed name) ≡ Some c → IsValueCell c
  pub free : (kept n : ℕ) → placement.is_reserved kept (IteratorCell n) ≡ false

-- what code of a home with these objects finds fixed
abbrev pub numbers_with : UnitTree → Home → DeclaredObjects → List (List (List ℕ)) → Placement → CodeNumbers
numbers_with p home objects outputs placement = record {
  home = home;
  objects = objects;
  outputs = outputs;
  placement = placement;
  constant = constant_number (code_constants p);
  callee = callee_of p;
}

value_no_walker : (code : ProgramParts) (number : ℕ) (c : CodeCell) → IsValueCell c → IsWalker code number c false
value_no_walker code number (SlotCell n) v = refl
value_no_walker code number (LocalCell n) v = refl
value_no_walker code number (HashCell n) v = absurd v
value_no_walker code number (IteratorCell n) v = absurd v
value_no_walker code number (ParameterCell n) v = absurd v

walker_by_cell : (code : ProgramParts) (number : ℕ) (c : CodeCell) (walks : Bool) → walks ≡ false → ((n : ℕ) → c ≡ IteratorCell n → IsWalker code number (IteratorCell n) walks) → IsWalker code number c walks
walker_by_cell code number (SlotCell n) walks e h = e
walker_by_cell code number (LocalCell n) walks e h = e
walker_by_cell code number (HashCell n) walks e h = e
walker_by_cell code number (IteratorCell n) walks e h = h n refl
walker_by_cell code number (ParameterCell n) walks e h = e

one_iterator : (k n : ℕ) → IteratorCell k ≡ IteratorCell n → k ≡ n
one_iterator k n e = cc

slot_no_iterator : (k n : ℕ) → SlotCell k ≡ IteratorCell n → ⊥
slot_no_iterator k n e = cc

hash_no_iterator : (k n : ℕ) → HashCell k ≡ IteratorCell n → ⊥
hash_no_iterator k n e = cc

parameter_no_iterator : (k n : ℕ) → ParameterCell k ≡ IteratorCell n → ⊥
parameter_no_iterator k n e = cc

iterator_number_by : (o1 o2 o3 o4 : Option ℕ) (n : ℕ) → first_cell (option_map SlotCell o1) (first_cell (option_map HashCell o2) (first_cell (option_map IteratorCell o3) (option_map ParameterCell o4))) ≡ Some (IteratorCell n) → o3 ≡ Some n
iterator_number_by (Some k) o2 o3 o4 n e = absurd (slot_no_iterator k n (same_some (SlotCell k) (IteratorCell n) e))
iterator_number_by None (Some k) o3 o4 n e = absurd (hash_no_iterator k n (same_some (HashCell k) (IteratorCell n) e))
iterator_number_by None None (Some k) o4 n e = ap Some (one_iterator k n (same_some (IteratorCell k) (IteratorCell n) e))
iterator_number_by None None None (Some k) n e = absurd (parameter_no_iterator k n (same_some (ParameterCell k) (IteratorCell n) e))
iterator_number_by None None None None n e = absurd cc

iterator_number : (p : UnitTree) (at : Location) (n : ℕ) → program_cell p at ≡ Some (IteratorCell n) → number_of_location (iterator_locations p) at ≡ Some n
iterator_number p at n e =
    iterator_number_by (number_of_location (slot_locations p) at) (number_of_location (hash_locations p) at) (number_of_location (iterator_locations p) at) (number_of_location (parameter_locations p) at) n e

pub mapped_some : {A X : Type 0} (f : A → X) (o : Option A) (y : X) → option_map f o ≡ Some y → (x : A) × (o ≡ Some x) × (f x ≡ y)
mapped_some f None y e = absurd cc
mapped_some f (Some x) y e = (x, refl, same_some (f x) y e)

module _ (p : UnitTree) (typed : IsTypedUnit p) (u : UnitHome) (looked : home_in (homes_of p) u.home ≡ Some u) (hash : List ℕ) (d : DeclaredHash) (e : hash_named u.objects.hashes hash ≡ Some d) where
  -- an iterator of the home walks the hash object exactly where the code's does
  from_own : (at : Location) (c : CodeCell) → NamedAt u.home u.objects.iterators at → program_cell p at ≡ Some c
      → IsWalker (program_code p) (hash_beside p typed u looked hash d e).0 c (is_walking u.home hash u.objects.iterators at)
  from_own at c it here =
      let number = (hash_beside p typed u looked hash d e).0 in
      let i = it.iterator in
      let beside = iterator_beside p typed u looked it.name i it.found in
      let cell : program_cell p at ≡ Some (IteratorCell beside.0) = ap (λ l. program_cell p l) it.where_ ∙ iterator_cell p typed u looked it.name i it.found in
      let some = some_of (hash_named u.objects.hashes i.hash) (walked_there u.objects.hashes u.objects.iterators it.name i (TypedHome.walks (home_typed p typed u looked)) it.found) in
      let other = hash_beside p typed u looked i.hash some.0 some.1 in
      let tells : nat_eq (walked_hash p u.home i) number ≡ is_walking u.home hash u.objects.iterators at =
      ap (λ o. nat_eq (unwrap_or o 0) number) other.1
      ∙ numbers_tell (hash_locations p) (object_at u.home i.hash) (object_at u.home hash) other.0 number other.1 (hash_beside p typed u looked hash d e).1
      ∙ ap (λ b. b && bytes_eq i.hash hash) (home_self u.home)
      ∙ sym (ap (λ l. is_walking u.home hash u.objects.iterators l) it.where_ ∙ walks_named u.home hash it.name i u.objects.iterators (iterators_distinct p typed u looked) it.found) in
      subst (λ k. IsWalker (program_code p) number k (is_walking u.home hash u.objects.iterators at)) (same_some (IteratorCell beside.0) c (sym cell ∙ here)) (walked_hash p u.home i, beside.2, tells)

  -- one of another home walks another hash object
  from_other : (at : Location) (n : ℕ) → list_any (λ l. is_same_location at l) (iterators_of_home u) ≡ false → number_of_location (iterator_locations p) at ≡ Some n
      → IsWalker (program_code p) (hash_beside p typed u looked hash d e).0 (IteratorCell n) false
  from_other at n none numbered =
      let number = (hash_beside p typed u looked hash d e).0 in
      let test : Location → Bool = λ l. is_same_location at l in
      let it = place_of_number test iterators_of_home (iterator_parts_of p) (λ v. mapped_lengths (λ (i : DeclaredIterator). object_at v.home i.name) (walked_hash p v.home) v.objects.iterators) (homes_of p) n (homes_apart p typed) (homes_typed p typed)
      (ap (λ l. number_of_first test l) (sym (iterator_locations_by_home p)) ∙ numbered) in
      let v = it.unit in
      let passes = number_passes test (iterators_of_home v) it.number it.numbered in
      let item = mapped_some (λ (i : DeclaredIterator). object_at v.home i.name) (slice_get v.objects.iterators it.number) passes.0 (sym (slice_mapped (λ (i : DeclaredIterator). object_at v.home i.name) v.objects.iterators it.number) ∙ passes.1) in
      let i = item.0 in
      let some = some_of (hash_named v.objects.hashes i.hash) (walked_at v.objects.hashes v.objects.iterators it.number i (TypedHome.walks it.typed) item.1) in
      let other = hash_beside p typed v it.looked i.hash some.0 some.1 in
      let apart : is_same_home v.home u.home ≡ false = false_from_ne_true (is_same_home v.home u.home)
      (λ one. true≢false (sym (any_at test (iterators_of_home v) it.number passes.0 passes.1 passes.2)
      ∙ ap (λ w. list_any test (iterators_of_home w)) (same_some v u (sym it.looked ∙ ap (λ h. home_in (homes_of p) h) (home_equal v.home u.home one) ∙ looked)) ∙ none)) in (
        walked_hash p v.home i,
        ap (λ l. slice_get l n) (iterator_parts_by_home p) ∙ it.there ∙ slice_mapped (walked_hash p v.home) v.objects.iterators it.number ∙ ap (λ o. option_map (walked_hash p v.home) o) item.1,
        ap (λ o. nat_eq (unwrap_or o 0) number) other.1
            ∙ numbers_tell (hash_locations p) (object_at v.home i.hash) (object_at u.home hash) other.0 number other.1 (hash_beside p typed u looked hash d e).1
            ∙ and_left (is_same_home v.home u.home) (bytes_eq i.hash hash) apart,
      )

  global_walks : (b : Bool) (at : Location) (c : CodeCell) → list_any (λ l. is_same_location at l) (iterators_of_home u) ≡ b → program_cell p at ≡ Some c
      → IsWalker (program_code p) (hash_beside p typed u looked hash d e).0 c (is_walking u.home hash u.objects.iterators at)
  global_walks true at c some here = from_own at c (named_at u.home u.objects.iterators at some) here
  global_walks false at c none here =
      let nobody = nothing_walks u.home hash u.objects.iterators at none in
      walker_by_cell (program_code p) (hash_beside p typed u looked hash d e).0 c (is_walking u.home hash u.objects.iterators at) nobody
      (λ n same. subst (λ b. IsWalker (program_code p) (hash_beside p typed u looked hash d e).0 (IteratorCell n) b) (sym nobody) (from_other at n none (iterator_number p at n (here ∙ ap (λ k. Some k) same))))

  module _ (outputs : List (List (List ℕ))) (placement : Placement) (place : HomePlacement p placement) where
    named_walks : (x : Nameable) (c : CodeCell) → placement.cell x ≡ Some c
        → IsWalker (program_code p) (hash_beside p typed u looked hash d e).0 c (walks_hash (numbers_with p u.home u.objects outputs placement) hash x)
    named_walks (GlobalAt at) c here = global_walks (list_any (λ l. is_same_location at l) (iterators_of_home u)) at c refl (sym (place.globals at) ∙ here)
    named_walks (LocalNamed name) c here = value_no_walker (program_code p) (hash_beside p typed u looked hash d e).0 c (place.locals name c here)

    iterators_fit : IteratorsFit (program_code p) (numbers_with p u.home u.objects outputs placement) hash (hash_beside p typed u looked hash d e).0
    iterators_fit = record { distinct = iterators_distinct p typed u looked; walking = named_walks; unreserved = place.free }

-- ---- variables of hash objects

hash_typed_by : (globals : Global → Option Ty) (b : Bool) (h d : DeclaredHash) (o : Option DeclaredHash) → cond b (Some h) o ≡ Some d → AreHashVariables globals h.key_variables × AreHashVariables globals h.data_variables
    → (o ≡ Some d → AreHashVariables globals d.key_variables × AreHashVariables globals d.data_variables) → AreHashVariables globals d.key_variables × AreHashVariables globals d.data_variables
hash_typed_by globals true h d o e here later = subst (λ (x : DeclaredHash). AreHashVariables globals x.key_variables × AreHashVariables globals x.data_variables) (same_some h d e) here
hash_typed_by globals false h d o e here later = later e

hash_typed : (globals : Global → Option Ty) (hashes : List DeclaredHash) (name : List ℕ) (d : DeclaredHash) → AreTypedHashes globals hashes → hash_named hashes name ≡ Some d
    → AreHashVariables globals d.key_variables × AreHashVariables globals d.data_variables
hash_typed globals [] name d typed e = absurd cc
hash_typed globals (h ∷ hashes) name d typed e = hash_typed_by globals (bytes_eq h.name name) h d (hash_named hashes name) e (typed.0.0, typed.0.1) (λ f. hash_typed globals hashes name d typed.1 f)

variables_slotted : (p : UnitTree) (home : Home) (objects : DeclaredObjects) (outputs : List (List (List ℕ))) (placement : Placement) (place : HomePlacement p placement) (vs : List HashVariable)
    → AreHashVariables (globals_at p home) vs → AreVariableSlots (numbers_with p home objects outputs placement) vs (variable_slots p home vs)
variables_slotted p home objects outputs placement place [] typed = tt
variables_slotted p home objects outputs placement place (v ∷ vs) typed =
    (place.globals (located home v.global) ∙ slot_cell p home v.global v.ty typed.0, variables_slotted p home objects outputs placement place vs typed.2)

module _ (p : UnitTree) (typed : IsTypedUnit p) (u : UnitHome) (looked : home_in (homes_of p) u.home ≡ Some u) (objects_typed : AreTypedObjects (globals_at p u.home) u.objects)
    (outputs : List (List (List ℕ))) (placement : Placement) (place : HomePlacement p placement) where
  hash_here : (name : List ℕ) (d : DeclaredHash) → hash_named u.objects.hashes name ≡ Some d → HasHash (program_code p) (numbers_with p u.home u.objects outputs placement) name
  hash_here name d e =
      let variables = hash_typed (globals_at p u.home) u.objects.hashes name d objects_typed.0 e in
      record {
        declared = d;
        number = (hash_beside p typed u looked name d e).0;
        part = hash_part p u.home d;
        meant = e;
        placed = place.globals (object_at u.home name) ∙ hash_cell p typed u looked name d e;
        coded = (hash_beside p typed u looked name d e).2;
        key_slots = variables_slotted p u.home u.objects outputs placement place d.key_variables variables.0;
        data_slots = variables_slotted p u.home u.objects outputs placement place d.data_variables variables.1;
        iterators = iterators_fit p typed u looked name d e outputs placement place;
      }

  iterator_here : (name : List ℕ) (i : DeclaredIterator) → iterator_named u.objects.iterators name ≡ Some i → HasIterator (program_code p) (numbers_with p u.home u.objects outputs placement) name
  iterator_here name i e =
      let some = some_of (hash_named u.objects.hashes i.hash) (walked_there u.objects.hashes u.objects.iterators name i objects_typed.1 e) in
      let other = hash_beside p typed u looked i.hash some.0 some.1 in
      record {
        declared = i;
        hash = some.0;
        number = (iterator_beside p typed u looked name i e).0;
        hash_number = other.0;
        part = hash_part p u.home some.0;
        meant = e;
        hash_meant = some.1;
        placed = place.globals (object_at u.home name) ∙ iterator_cell p typed u looked name i e;
        hash_placed = place.globals (object_at u.home i.hash) ∙ hash_cell p typed u looked i.hash some.0 some.1;
        coded = (iterator_beside p typed u looked name i e).2 ∙ ap (λ o. Some (unwrap_or o 0)) other.1;
        hash_coded = other.2;
        data_slots = variables_slotted p u.home u.objects outputs placement place (DeclaredHash.data_variables some.0) (hash_typed (globals_at p u.home) u.objects.hashes i.hash some.0 objects_typed.0 some.1).1;
      }

-- ---- every home

instance_objects_by : (b : Bool) (i : InstanceTree) (variables : List Variable) (objects : DeclaredObjects) → AreTypedObjects (package_globals i.variables) i.objects → AreTypedObjects (package_globals variables) objects
    → AreTypedObjects (package_globals (if b then i.variables else variables)) (if b then i.objects else objects)
instance_objects_by true i variables objects here later = here
instance_objects_by false i variables objects here later = later

instance_objects_typed : (instances : List InstanceTree) (name : List ℕ) → AreTypedInstances instances → AreTypedObjects (package_globals (instance_variables instances name)) (instance_objects instances name)
instance_objects_typed [] name typed = (tt, tt)
instance_objects_typed (i ∷ instances) name typed =
    instance_objects_by (bytes_eq i.name name) i (instance_variables instances name) (instance_objects instances name) typed.2 (instance_objects_typed instances name typed.4)

pub objects_typed_at : (p : UnitTree) → IsTypedUnit p → (home : Home) → AreTypedObjects (globals_at p home) (objects_of p home)
objects_typed_at p typed None = typed.objects
objects_typed_at p typed (Some name) = instance_objects_typed p.instances name typed.instances

module _ (p : UnitTree) (typed : IsTypedUnit p) (home : Home) (outputs : List (List (List ℕ))) (placement : Placement) (place : HomePlacement p placement) where
  looked_here : (it : AtHome p home) → home_in (homes_of p) it.unit.home ≡ Some it.unit
  looked_here it = ap (λ h. home_in (homes_of p) h) it.here ∙ it.looked

  typed_here : (it : AtHome p home) → AreTypedObjects (globals_at p it.unit.home) it.unit.objects
  typed_here it =
      subst (λ o. AreTypedObjects (globals_at p it.unit.home) o) (sym it.objects) (subst (λ h. AreTypedObjects (globals_at p h) (objects_of p home)) (sym it.here) (objects_typed_at p typed home))

  hash_by : (name : List ℕ) → IsTrue (is_some (hash_named (objects_of p home).hashes name)) → AtHome p home ⊎ NoHome p home → HasHash (program_code p) (body_numbers p home outputs placement) name
  hash_by name e (inl it) =
      let some = some_of (hash_named it.unit.objects.hashes name) (ap (λ (o : DeclaredObjects). is_some (hash_named o.hashes name)) it.objects ∙ e) in
      subst (λ o. HasHash (program_code p) (numbers_with p home o outputs placement) name) it.objects
      (subst (λ h. HasHash (program_code p) (numbers_with p h it.unit.objects outputs placement) name) it.here (hash_here p typed it.unit (looked_here it) (typed_here it) outputs placement place name some.0 some.1))
  hash_by name e (inr none) = absurd (true≢false (sym e ∙ ap (λ (o : DeclaredObjects). is_some (hash_named o.hashes name)) none.0))

  pub has_hash : (name : List ℕ) → IsTrue (is_some (hash_named (objects_of p home).hashes name)) → HasHash (program_code p) (body_numbers p home outputs placement) name
  has_hash name e = hash_by name e (at_home p home)

  iterator_by : (name : List ℕ) → IsTrue (is_some (iterator_named (objects_of p home).iterators name)) → AtHome p home ⊎ NoHome p home → HasIterator (program_code p) (body_numbers p home outputs placement) name
  iterator_by name e (inl it) =
      let some = some_of (iterator_named it.unit.objects.iterators name) (ap (λ (o : DeclaredObjects). is_some (iterator_named o.iterators name)) it.objects ∙ e) in
      subst (λ o. HasIterator (program_code p) (numbers_with p home o outputs placement) name) it.objects
      (subst (λ h. HasIterator (program_code p) (numbers_with p h it.unit.objects outputs placement) name) it.here (iterator_here p typed it.unit (looked_here it) (typed_here it) outputs placement place name some.0 some.1))
  iterator_by name e (inr none) = absurd (true≢false (sym e ∙ ap (λ (o : DeclaredObjects). is_some (iterator_named o.iterators name)) none.0))

  pub has_iterator : (name : List ℕ) → IsTrue (is_some (iterator_named (objects_of p home).iterators name)) → HasIterator (program_code p) (body_numbers p home outputs placement) name
  has_iterator name e = iterator_by name e (at_home p home)
