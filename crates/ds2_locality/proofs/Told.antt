-- In whatever order hash objects and iterators are told, all are told.
use Rattle.std.proofs.Common.{◌≡◌, ℕ, Bool, true, false, ◌||◌, cond, List, [], ◌∷◌, ◌++◌, map, flat_map, find, bytes_eq, Some, None, is_some, refl, sym, ap, ◌∙◌, subst, if◌then◌else◌}
use Rattle.std.specs.List.{list_any}
use Rattle.std.proofs.lemmas.Bool.{true≢false}
use Rattle.std.proofs.lemmas.Slice.Eq.{bytes_eq-Decides}
use Rattle.ds2_meaning.specs.declared.hashes.DeclaredHash.{DeclaredHash}
use Rattle.ds2_meaning.specs.declared.hashes.DeclaredIterator.{DeclaredIterator}
use Rattle.ds2_meaning.specs.HashObjects.{DeclaredObjects, no_objects, object_at}
use Rattle.ds2_meaning.specs.Location.{Home, Location, is_same_location}
use Rattle.ds2_meaning.specs.ProgramTree.{InstanceTree, UnitTree, instance_objects, objects_of}
use Rattle.ds2_locality.specs.Soundness.{AllObjectsAreTold}
use Rattle.ds2_locality.specs.Verdict.{hashes_brought, hashes_kept_at, iterators_brought, iterators_kept_at}
use Rattle.ds2_locality.proofs.Near.{location_self}
use Rattle.ds2_locality.proofs.Objects.{any_in_back}
use Rattle.ds2_locality.proofs.TypedFacts.{any_front}

-- an object of a home is one of some locations
abbrev IsToldAmong : List Location → Home → List ℕ → Type 0
IsToldAmong locations home name = list_any (λ other. is_same_location (object_at home name) other) locations ≡ true

-- what has names, and is in the objects of a home; where there are none, there is no such thing
module _ {A : Type 0} (name_of : A → List ℕ) (things : DeclaredObjects → List A) (empty : things no_objects ≡ []) where
  abbrev Found : List A → List ℕ → Type 0
  Found xs name = is_some (find (λ x. bytes_eq (name_of x) name) xs) ≡ true

  abbrev kept : Home → List A → List Location
  kept home xs = map (λ x. object_at home (name_of x)) xs

  here : (home : Home) (x : A) (xs : List A) (name : List ℕ) → bytes_eq (name_of x) name ≡ true → IsToldAmong (kept home (x ∷ xs)) home name
  here home x xs name same =
      first (is_same_location (object_at home name) (object_at home (name_of x))) (list_any (λ other. is_same_location (object_at home name) other) (kept home xs))
      (ap (λ n. is_same_location (object_at home name) (object_at home n)) ((bytes_eq-Decides (name_of x) name).0 same) ∙ location_self (object_at home name))
    where
      first : (a b : Bool) → a ≡ true → (a || b) ≡ true
      first true b e = refl
      first false b e = absurd (true≢false (sym e))

  told_by : (b : Bool) (home : Home) (x : A) (xs : List A) (name : List ℕ) → bytes_eq (name_of x) name ≡ b → is_some (cond b (Some x) (find (λ z. bytes_eq (name_of z) name) xs)) ≡ true
      → (Found xs name → IsToldAmong (kept home xs) home name) → IsToldAmong (kept home (x ∷ xs)) home name
  told_by true home x xs name same found later = here home x xs name same
  told_by false home x xs name same found later = any_in_back (λ other. is_same_location (object_at home name) other) (kept home (x ∷ [])) (kept home xs) (later found)

  found_told : (home : Home) (xs : List A) (name : List ℕ) → Found xs name → IsToldAmong (kept home xs) home name
  found_told home [] name found = absurd (true≢false (sym found))
  found_told home (x ∷ xs) name found = told_by (bytes_eq (name_of x) name) home x xs name refl found (λ f. found_told home xs name f)

  abbrev kept_by_instances : List InstanceTree → List Location
  kept_by_instances instances = flat_map (λ (i : InstanceTree). kept (Some i.name) (things i.objects)) instances

  nothing_found : (name : List ℕ) → Found (things no_objects) name → ⊥
  nothing_found name found = true≢false (sym (subst (λ xs. Found xs name) empty found))

  instance_by : (b : Bool) (i : InstanceTree) (instances : List InstanceTree) (home name : List ℕ) → bytes_eq i.name home ≡ b → Found (things (if b then i.objects else instance_objects instances home)) name
      → (Found (things (instance_objects instances home)) name → IsToldAmong (kept_by_instances instances) (Some home) name) → IsToldAmong (kept_by_instances (i ∷ instances)) (Some home) name
  instance_by true i instances home name same found later =
      any_front (λ other. is_same_location (object_at (Some home) name) other) (kept (Some i.name) (things i.objects)) (kept_by_instances instances)
      (subst (λ n. IsToldAmong (kept (Some i.name) (things i.objects)) (Some n) name) ((bytes_eq-Decides i.name home).0 same) (found_told (Some i.name) (things i.objects) name found))
  instance_by false i instances home name same found later =
      any_in_back (λ other. is_same_location (object_at (Some home) name) other) (kept (Some i.name) (things i.objects)) (kept_by_instances instances) (later found)

  instance_told : (instances : List InstanceTree) (home name : List ℕ) → Found (things (instance_objects instances home)) name → IsToldAmong (kept_by_instances instances) (Some home) name
  instance_told [] home name found = absurd (nothing_found name found)
  instance_told (i ∷ instances) home name found = instance_by (bytes_eq i.name home) i instances home name refl found (λ f. instance_told instances home name f)

  pub each_told : (p : UnitTree) (home : Home) (name : List ℕ) → Found (things (objects_of p home)) name → IsToldAmong (kept None (things p.objects) ++ kept_by_instances p.instances) home name
  each_told p None name found =
      any_front (λ other. is_same_location (object_at None name) other) (kept None (things p.objects)) (kept_by_instances p.instances) (found_told None (things p.objects) name found)
  each_told p (Some home) name found =
      any_in_back (λ other. is_same_location (object_at (Some home) name) other) (kept None (things p.objects)) (kept_by_instances p.instances) (instance_told p.instances home name found)

pub all_objects_are_told : AllObjectsAreTold
all_objects_are_told p run_place term_place names =
    let named = flat_map (hashes_brought p) names ++ flat_map (iterators_brought p) names in
    let hashes = hashes_kept_at None p.objects ++ flat_map (λ (i : InstanceTree). hashes_kept_at (Some i.name) i.objects) p.instances in
    let own = iterators_kept_at None p.objects in
    let others = flat_map (λ (i : InstanceTree). iterators_kept_at (Some i.name) i.objects) p.instances in
    record {
      hashes = λ home name found.
          any_in_back (λ other. is_same_location (object_at home name) other) named ((hashes ++ own) ++ others)
          (any_front (λ other. is_same_location (object_at home name) other) (hashes ++ own) others
          (any_front (λ other. is_same_location (object_at home name) other) hashes own
          (each_told (λ (h : DeclaredHash). h.name) (λ (o : DeclaredObjects). o.hashes) refl p home name found)));
      iterators = λ home name found.
          any_in_back (λ other. is_same_location (object_at home name) other) named ((hashes ++ own) ++ others)
          (behind hashes own others (λ other. is_same_location (object_at home name) other)
          (each_told (λ (i : DeclaredIterator). i.name) (λ (o : DeclaredObjects). o.iterators) refl p home name found));
    }
  where
    -- behind other locations
    behind : (xs ys zs : List Location) (test : Location → Bool) → list_any test (ys ++ zs) ≡ true → list_any test ((xs ++ ys) ++ zs) ≡ true
    behind [] ys zs test e = e
    behind (x ∷ xs) ys zs test e = any_in_back test (x ∷ []) ((xs ++ ys) ++ zs) (behind xs ys zs test e)
