-- The program and its instances as homes, each with its variables and objects.
use Rattle.std.proofs.Common.{◌≡◌, ◌⊎◌, inl, inr, ℕ, ◌+◌, Bool, true, false, not, ◌||◌, cond, ◌<◌, List, [], ◌∷◌, ◌++◌, length, map, flat_map, slice_get, bytes_eq, Option, Some, None, refl, sym, ap, ◌∙◌, subst, IsTrue, if◌then◌else◌}
use Rattle.std.specs.List.{list_any, find}
use Rattle.std.specs.Option.{option_map}
use Rattle.std.proofs.lemmas.Bool.{true≢false, or_from, or_parts, and_from, and_parts, not-true, not_from_false}
use Rattle.std.proofs.lemmas.Slice.Eq.{bytes_eq-Decides}
use Rattle.ds2_meaning.specs.declared.globals.Variable.{Variable}
use Rattle.ds2_meaning.specs.declared.hashes.ThreadInstance.{ThreadInstance}
use Rattle.ds2_meaning.specs.HashObjects.{DeclaredObjects, no_objects}
use Rattle.ds2_meaning.specs.IsTyped.{are_distinct, variable_names, object_names, AreTypedIterators, AreTypedInstances, IsTypedUnit}
use Rattle.ds2_meaning.specs.Location.{Home, is_same_home}
use Rattle.ds2_meaning.specs.ProgramTree.{InstanceTree, UnitTree, data_vector, is_listed, instance_objects, objects_of}
use Rattle.ds2_program_code.specs.PlacedProgram.{number_of_first}
use Rattle.ds2_program_code.proofs.Lists.{same_some, bytes_swap, bytes_self, any_append, none_in_both, any_in_back, none_mapped, number_of_any, number_in_front, number_in_back, number_inside, slice_of_front, slice_in_back, Beside, beside_in_front, beside_in_back}

-- a home with its variables and objects
pub record UnitHome : Type 0 where
  pub home : Home
  pub variables : List Variable
  pub objects : DeclaredObjects

abbrev pub own_home : UnitTree → UnitHome
own_home p = record { home = None; variables = data_vector p; objects = p.objects }

abbrev pub instance_home : InstanceTree → UnitHome
instance_home i = record { home = Some i.name; variables = i.variables; objects = i.objects }

abbrev pub homes_of : UnitTree → List UnitHome
homes_of p = own_home p ∷ map instance_home p.instances

-- the first home that is this one
abbrev pub home_in : List UnitHome → Home → Option UnitHome
home_in us home = find (λ (u : UnitHome). is_same_home home u.home) us

-- ---- one home

pub home_self : (home : Home) → is_same_home home home ≡ true
home_self None = refl
home_self (Some name) = bytes_self name

pub home_equal : (a b : Home) → is_same_home a b ≡ true → a ≡ b
home_equal None None e = refl
home_equal None (Some b) e = absurd (true≢false (sym e))
home_equal (Some a) None e = absurd (true≢false (sym e))
home_equal (Some a) (Some b) e = ap Some ((bytes_eq-Decides a b).0 e)

pub home_swap : (a b : Home) → is_same_home a b ≡ is_same_home b a
home_swap None None = refl
home_swap None (Some b) = refl
home_swap (Some a) None = refl
home_swap (Some a) (Some b) = bytes_swap a b

-- ---- homes apart

abbrev pub HomesApart : List UnitHome → Type 0
HomesApart [] = Unit {0}
HomesApart (u ∷ us) = (list_any (λ (v : UnitHome). is_same_home u.home v.home) us ≡ false) × HomesApart us

-- what is typed of a home: its names are distinct, and its iterators walk hash objects that are there
pub record TypedHome (u : UnitHome) : Type 0 where
  pub distinct : IsTrue (are_distinct (variable_names u.variables ++ object_names u.objects))
  pub walks : AreTypedIterators u.objects.hashes u.objects.iterators

abbrev pub AreTypedHomes : List UnitHome → Type 0
AreTypedHomes [] = Unit {0}
AreTypedHomes (u ∷ us) = TypedHome u × AreTypedHomes us

-- ---- lists over homes

-- a list of a home, over all homes
module _ {X : Type 0} (test : X → Bool) (f : UnitHome → List X) (home : Home) (others : (v : UnitHome) → is_same_home home v.home ≡ false → list_any test (f v) ≡ false) where
  not_there : (us : List UnitHome) → list_any (λ (v : UnitHome). is_same_home home v.home) us ≡ false → list_any test (flat_map f us) ≡ false
  not_there [] e = refl
  not_there (u ∷ us) e =
      let parts = or_parts (is_same_home home u.home) (list_any (λ (v : UnitHome). is_same_home home v.home) us) e in
      none_in_both test (f u) (flat_map f us) (others u parts.0) (not_there us parts.1)

  only_by : (b : Bool) (v u : UnitHome) (vs : List UnitHome) → is_same_home home v.home ≡ b → cond b (Some v) (home_in vs home) ≡ Some u → HomesApart (v ∷ vs) → list_any test (f u) ≡ false
      → (home_in vs home ≡ Some u → list_any test (flat_map f vs) ≡ false) → list_any test (f v ++ flat_map f vs) ≡ false
  only_by true v u vs same found apart none later =
      let it : v ≡ u = same_some v u found in
      let here = home_equal home v.home same in
      none_in_both test (f v) (flat_map f vs) (subst (λ (w : UnitHome). list_any test (f w) ≡ false) (sym it) none)
      (not_there vs (ap (λ h. list_any (λ (w : UnitHome). is_same_home h w.home) vs) here ∙ apart.0))
  only_by false v u vs same found apart none later = none_in_both test (f v) (flat_map f vs) (others v same) (later found)

  -- what is in no list of one home, and in none of others, is in none
  pub only_there : (us : List UnitHome) (u : UnitHome) → HomesApart us → home_in us home ≡ Some u → list_any test (f u) ≡ false → list_any test (flat_map f us) ≡ false
  only_there [] u apart found none = absurd cc
  only_there (v ∷ vs) u apart found none =
      only_by (is_same_home home v.home) v u vs refl found apart none (λ e. only_there vs u apart.1 e none)

  module _ {Y : Type 0} (g : UnitHome → List Y) (lengths : (v : UnitHome) → length (f v) ≡ length (g v)) (y : Y) where
    beside_by : (b : Bool) (v u : UnitHome) (vs : List UnitHome) → is_same_home home v.home ≡ b → cond b (Some v) (home_in vs home) ≡ Some u → Beside test (f u) (g u) y
        → (home_in vs home ≡ Some u → Beside test (flat_map f vs) (flat_map g vs) y) → Beside test (f v ++ flat_map f vs) (g v ++ flat_map g vs) y
    beside_by true v u vs same found it later =
        let here : v ≡ u = same_some v u found in
        beside_in_front test (f v) (flat_map f vs) (g v) (flat_map g vs) y (subst (λ (w : UnitHome). Beside test (f w) (g w) y) (sym here) it)
    beside_by false v u vs same found it later = beside_in_back test (f v) (flat_map f vs) (g v) (flat_map g vs) y (others v same) (lengths v) (later found)

    -- what stands beside an item of one home stands beside it among those of all homes
    pub beside_there : (us : List UnitHome) (u : UnitHome) → home_in us home ≡ Some u → Beside test (f u) (g u) y → Beside test (flat_map f us) (flat_map g us) y
    beside_there [] u found it = absurd cc
    beside_there (v ∷ vs) u found it = beside_by (is_same_home home v.home) v u vs refl found it (λ e. beside_there vs u e it)

-- ---- where an item of a number stands

-- the home of the first item that passes a test, and its number there
pub record StandsInHome {X Y : Type 0} (test : X → Bool) (f : UnitHome → List X) (g : UnitHome → List Y) (us : List UnitHome) (n : ℕ) : Type 0 where
  pub unit : UnitHome
  pub typed : TypedHome unit
  pub looked : home_in us unit.home ≡ Some unit
  pub number : ℕ
  pub numbered : number_of_first test (f unit) ≡ Some number
  pub there : slice_get (flat_map g us) n ≡ slice_get (g unit) number

listed_by : (b : Bool) (v u : UnitHome) (vs : List UnitHome) (home : Home) → cond b (Some v) (home_in vs home) ≡ Some u
    → (home_in vs home ≡ Some u → list_any (λ (w : UnitHome). is_same_home home w.home) vs ≡ true) → (b || list_any (λ (w : UnitHome). is_same_home home w.home) vs) ≡ true
listed_by true v u vs home e later = refl
listed_by false v u vs home e later = later e

listed_home : (us : List UnitHome) (home : Home) (u : UnitHome) → home_in us home ≡ Some u → list_any (λ (v : UnitHome). is_same_home home v.home) us ≡ true
listed_home [] home u e = absurd cc
listed_home (v ∷ vs) home u e = listed_by (is_same_home home v.home) v u vs home e (λ f. listed_home vs home u f)

apart_by : (b : Bool) (w : UnitHome) (ws : List UnitHome) (home : Home) → is_same_home home w.home ≡ b → list_any (λ (v : UnitHome). is_same_home w.home v.home) ws ≡ false
    → list_any (λ (v : UnitHome). is_same_home home v.home) ws ≡ true → b ≡ false
apart_by true w ws home same none some =
    absurd (true≢false (sym some ∙ ap (λ h. list_any (λ (v : UnitHome). is_same_home h v.home) ws) (home_equal home w.home same) ∙ none))
apart_by false w ws home same none some = refl

-- a home that is found behind another one is found with it in front
later_home : (w : UnitHome) (ws : List UnitHome) (u : UnitHome) → HomesApart (w ∷ ws) → home_in ws u.home ≡ Some u → home_in (w ∷ ws) u.home ≡ Some u
later_home w ws u apart e =
    let other = apart_by (is_same_home u.home w.home) w ws u.home refl apart.0 (listed_home ws u.home u e) in
    ap (λ b. cond b (Some w) (home_in ws u.home)) other ∙ e

first_home : (w : UnitHome) (ws : List UnitHome) → home_in (w ∷ ws) w.home ≡ Some w
first_home w ws = ap (λ b. cond b (Some w) (home_in ws w.home)) (home_self w.home)

number_back_by : (m n : ℕ) (q : Option ℕ) → option_map (λ k. m + k) q ≡ Some n → (k : ℕ) × (q ≡ Some k) × (n ≡ m + k)
number_back_by m n None e = absurd cc
number_back_by m n (Some k) e = (k, refl, sym (same_some (m + k) n e))

number_front_by : {X : Type 0} (test : X → Bool) (xs ys : List X) (n : ℕ) (o : Option ℕ) → number_of_first test xs ≡ o → list_any test xs ≡ true → number_of_first test (xs ++ ys) ≡ Some n → o ≡ Some n
number_front_by test xs ys n o e some all =
    let it = number_of_any test xs some in
    sym e ∙ it.1 ∙ sym (number_in_front test xs ys it.0 it.1) ∙ all

module _ {X Y : Type 0} (test : X → Bool) (f : UnitHome → List X) (g : UnitHome → List Y) (lengths : (v : UnitHome) → length (f v) ≡ length (g v)) where
  place_by : (b : Bool) (w : UnitHome) (ws : List UnitHome) (n : ℕ) → list_any test (f w) ≡ b → HomesApart (w ∷ ws) → AreTypedHomes (w ∷ ws) → number_of_first test (f w ++ flat_map f ws) ≡ Some n
      → ((k : ℕ) → number_of_first test (flat_map f ws) ≡ Some k → StandsInHome test f g ws k) → StandsInHome test f g (w ∷ ws) n
  place_by true w ws n some apart typed e later =
      let here : number_of_first test (f w) ≡ Some n = number_front_by test (f w) (flat_map f ws) n (number_of_first test (f w)) refl some e in
      record { unit = w; typed = typed.0; looked = first_home w ws; number = n; numbered = here; there = slice_of_front (g w) (flat_map g ws) n (subst (λ k. n < k) (lengths w) (number_inside test (f w) n here)) }
  place_by false w ws n none apart typed e later =
      let back = number_back_by (length (f w)) n (number_of_first test (flat_map f ws)) (sym (number_in_back test (f w) (flat_map f ws) none) ∙ e) in
      let it = later back.0 back.1 in
      record {
        unit = it.unit;
        typed = it.typed;
        looked = later_home w ws it.unit apart it.looked;
        number = it.number;
        numbered = it.numbered;
        there = ap (λ k. slice_get (g w ++ flat_map g ws) k) (back.2 ∙ ap (λ k. k + back.0) (lengths w)) ∙ slice_in_back (g w) (flat_map g ws) back.0 ∙ it.there;
      }

  pub place_of_number : (us : List UnitHome) (n : ℕ) → HomesApart us → AreTypedHomes us → number_of_first test (flat_map f us) ≡ Some n → StandsInHome test f g us n
  place_of_number [] n apart typed e = absurd cc
  place_of_number (w ∷ ws) n apart typed e =
      place_by (list_any test (f w)) w ws n refl apart typed e (λ k h. place_of_number ws k apart.1 typed.1 h)

-- ---- distinct names

pub apart_names_by : (b : Bool) (names : List (List ℕ)) (x name : List ℕ) → bytes_eq x name ≡ b → is_listed names x ≡ false → is_listed names name ≡ true → b ≡ false
apart_names_by true names x name same fresh there = absurd (true≢false (sym there ∙ ap (λ k. is_listed names k) (sym ((bytes_eq-Decides x name).0 same)) ∙ fresh))
apart_names_by false names x name same fresh there = refl

listed_in_back : (xs ys : List (List ℕ)) (name : List ℕ) → is_listed ys name ≡ true → is_listed (xs ++ ys) name ≡ true
listed_in_back xs ys name e = any_in_back (λ other. bytes_eq other name) xs ys e

-- of distinct names in two lists none stands in both
pub names_apart : (xs ys : List (List ℕ)) (name : List ℕ) → IsTrue (are_distinct (xs ++ ys)) → is_listed ys name ≡ true → is_listed xs name ≡ false
names_apart [] ys name distinct there = refl
names_apart (x ∷ xs) ys name distinct there =
    let parts = and_parts (not (is_listed (xs ++ ys) x)) (are_distinct (xs ++ ys)) distinct in
    or_from (bytes_eq x name) (is_listed xs name)
    (apart_names_by (bytes_eq x name) (xs ++ ys) x name refl (not-true (is_listed (xs ++ ys) x) parts.0) (listed_in_back xs ys name there)) (names_apart xs ys name parts.1 there)

pub distinct_back : (xs ys : List (List ℕ)) → IsTrue (are_distinct (xs ++ ys)) → IsTrue (are_distinct ys)
distinct_back [] ys distinct = distinct
distinct_back (x ∷ xs) ys distinct = distinct_back xs ys (and_parts (not (is_listed (xs ++ ys) x)) (are_distinct (xs ++ ys)) distinct).1

fresh_front : (xs ys : List (List ℕ)) (x : List ℕ) → is_listed (xs ++ ys) x ≡ false → is_listed xs x ≡ false
fresh_front xs ys x e = (or_parts (is_listed xs x) (is_listed ys x) (sym (any_append (λ other. bytes_eq other x) xs ys) ∙ e)).0

pub distinct_front : (xs ys : List (List ℕ)) → IsTrue (are_distinct (xs ++ ys)) → IsTrue (are_distinct xs)
distinct_front [] ys distinct = refl
distinct_front (x ∷ xs) ys distinct =
    let parts = and_parts (not (is_listed (xs ++ ys) x)) (are_distinct (xs ++ ys)) distinct in
    and_from (not (is_listed xs x)) (are_distinct xs) (not_from_false (is_listed xs x) (fresh_front xs ys x (not-true (is_listed (xs ++ ys) x) parts.0))) (distinct_front xs ys parts.1)

-- ---- the homes of a typed unit

-- the names of instances
abbrev pub names_of_instances : List InstanceTree → List (List ℕ)
names_of_instances instances = map (λ (i : InstanceTree). i.name) instances

other_homes : (name : List ℕ) (instances : List InstanceTree) → is_listed (names_of_instances instances) name ≡ false → list_any (λ (v : UnitHome). is_same_home (Some name) v.home) (map instance_home instances) ≡ false
other_homes name [] e = refl
other_homes name (i ∷ instances) e =
    let parts = or_parts (bytes_eq i.name name) (is_listed (names_of_instances instances) name) e in
    or_from (bytes_eq name i.name) (list_any (λ (v : UnitHome). is_same_home (Some name) v.home) (map instance_home instances)) (bytes_swap name i.name ∙ parts.0) (other_homes name instances parts.1)

instances_apart : (instances : List InstanceTree) → IsTrue (are_distinct (names_of_instances instances)) → HomesApart (map instance_home instances)
instances_apart [] distinct = tt
instances_apart (i ∷ instances) distinct =
    let parts = and_parts (not (is_listed (names_of_instances instances) i.name)) (are_distinct (names_of_instances instances)) distinct in
    (other_homes i.name instances (not-true (is_listed (names_of_instances instances) i.name) parts.0), instances_apart instances parts.1)

typed_homes : (instances : List InstanceTree) → AreTypedInstances instances → AreTypedHomes (map instance_home instances)
typed_homes [] typed = tt
typed_homes (i ∷ instances) typed = (record { distinct = typed.1; walks = typed.2.1 }, typed_homes instances typed.4)

module _ (p : UnitTree) (typed : IsTypedUnit p) where
  vectors_first : IsTrue (are_distinct (variable_names (data_vector p) ++ object_names p.objects))
  vectors_first =
      let instances = names_of_instances p.instances in
      let threads = map (λ (i : ThreadInstance). i.name) p.threads in
      let own = variable_names (data_vector p) ++ object_names p.objects in
      distinct_front own instances (distinct_front (own ++ instances) threads typed.names)

  pub instance_names : IsTrue (are_distinct (names_of_instances p.instances))
  instance_names =
      let instances = names_of_instances p.instances in
      let threads = map (λ (i : ThreadInstance). i.name) p.threads in
      let own = variable_names (data_vector p) ++ object_names p.objects in
      distinct_back own instances (distinct_front (own ++ instances) threads typed.names)

  pub homes_apart : HomesApart (homes_of p)
  homes_apart = (none_mapped (λ (v : UnitHome). is_same_home None v.home) instance_home p.instances (λ i. refl), instances_apart p.instances instance_names)

  pub homes_typed : AreTypedHomes (homes_of p)
  homes_typed = (record { distinct = vectors_first; walks = typed.objects.1 }, typed_homes p.instances typed.instances)

-- ---- what is looked up of a home

-- a home of a program with what is looked up of it
pub record AtHome (p : UnitTree) (home : Home) : Type 0 where
  pub unit : UnitHome
  pub looked : home_in (homes_of p) home ≡ Some unit
  pub here : unit.home ≡ home
  pub objects : unit.objects ≡ objects_of p home

record AtInstance (instances : List InstanceTree) (name : List ℕ) : Type 0 where
  unit : UnitHome
  looked : home_in (map instance_home instances) (Some name) ≡ Some unit
  here : unit.home ≡ Some name
  objects : unit.objects ≡ instance_objects instances name

-- a name that no instance has
abbrev NoInstance : List InstanceTree → List ℕ → Type 0
NoInstance instances name = (instance_objects instances name ≡ no_objects) × (home_in (map instance_home instances) (Some name) ≡ None)

at_instance_by : (b : Bool) (i : InstanceTree) (instances : List InstanceTree) (name : List ℕ) → bytes_eq i.name name ≡ b → AtInstance instances name ⊎ NoInstance instances name → AtInstance (i ∷ instances) name ⊎ NoInstance (i ∷ instances) name
at_instance_by true i instances name same rest = inl (record {
  unit = instance_home i;
  looked = ap (λ b. cond b (Some (instance_home i)) (home_in (map instance_home instances) (Some name))) (bytes_swap name i.name ∙ same);
  here = ap Some ((bytes_eq-Decides i.name name).0 same);
  objects = ap (λ b. if b then i.objects else instance_objects instances name) (sym same);
})
at_instance_by false i instances name same (inl it) = inl (record {
  unit = it.unit;
  looked = ap (λ b. cond b (Some (instance_home i)) (home_in (map instance_home instances) (Some name))) (bytes_swap name i.name ∙ same) ∙ it.looked;
  here = it.here;
  objects = it.objects ∙ ap (λ b. if b then i.objects else instance_objects instances name) (sym same);
})
at_instance_by false i instances name same (inr none) = inr (
  ap (λ b. if b then i.objects else instance_objects instances name) same ∙ none.0,
  ap (λ b. cond b (Some (instance_home i)) (home_in (map instance_home instances) (Some name))) (bytes_swap name i.name ∙ same) ∙ none.1,
)

at_instance : (instances : List InstanceTree) (name : List ℕ) → AtInstance instances name ⊎ NoInstance instances name
at_instance [] name = inr (refl, refl)
at_instance (i ∷ instances) name = at_instance_by (bytes_eq i.name name) i instances name refl (at_instance instances name)

-- a home that a program has not
abbrev pub NoHome : UnitTree → Home → Type 0
NoHome p home = (objects_of p home ≡ no_objects) × (home_in (homes_of p) home ≡ None)

from_instance : (p : UnitTree) (name : List ℕ) → AtInstance p.instances name ⊎ NoInstance p.instances name → AtHome p (Some name) ⊎ NoHome p (Some name)
from_instance p name (inl it) = inl (record { unit = it.unit; looked = it.looked; here = it.here; objects = it.objects })
from_instance p name (inr none) = inr none

-- each home has its place, or is none of the program's and has no objects
pub at_home : (p : UnitTree) (home : Home) → AtHome p home ⊎ NoHome p home
at_home p None = inl (record { unit = own_home p; looked = refl; here = refl; objects = refl })
at_home p (Some name) = from_instance p name (at_instance p.instances name)

-- ---- each home is looked up

abbrev pub AreLookedUp : List UnitHome → List UnitHome → Type 0
AreLookedUp all [] = Unit {0}
AreLookedUp all (u ∷ us) = (home_in all u.home ≡ Some u) × AreLookedUp all us

looked_later : (w : UnitHome) (ws us : List UnitHome) → HomesApart (w ∷ ws) → AreLookedUp ws us → AreLookedUp (w ∷ ws) us
looked_later w ws [] apart looked = tt
looked_later w ws (u ∷ us) apart looked = (later_home w ws u apart looked.0, looked_later w ws us apart looked.1)

pub all_looked : (us : List UnitHome) → HomesApart us → AreLookedUp us us
all_looked [] apart = tt
all_looked (w ∷ ws) apart = (first_home w ws, looked_later w ws ws apart (all_looked ws apart.1))
