-- Locations that are looked for, as keys: two are one where their locations are.
use Rattle.std.specs.Prelude.{◌≡◌, ℕ, Bool, true, false, ◌&&◌, bytes_eq, List, [], ◌++◌, Some, None, refl}
use Rattle.std.proofs.Common.{sym, ap, ◌∙◌}
use Rattle.std.specs.Bool.{Decides}
use Rattle.std.specs.Cmp.{IsEquivalence, decided}
use Rattle.std.specs.Cmp.Lexicographic.{bytes_decides}
use Rattle.std.specs.Hash as fed
use Rattle.ds2_meaning.specs.declared.location.Global.{Global}
use Rattle.ds2_meaning.specs.declared.location.Global.TheVariants.{Named, First, Last, Present, Parameter}
use Rattle.ds2_meaning.specs.Location.{Home, Location, is_same_home, is_same_global, is_same_location}
use Rattle.ds2_meaning.specs.ProgramMeaning.{global_name}
use Rattle.ds2_numbering.specs.declared.sought.GlobalSort.{GlobalSort}
use Rattle.ds2_numbering.specs.declared.sought.GlobalSort.TheVariants as sort
use Rattle.ds2_numbering.specs.declared.sought.Sought.{Sought}
use Rattle.ds2_numbering.specs.SoughtLocations.{home_of_name, global_of_sort, location_sought}

-- two sorts are one
abbrev pub is_same_sort : GlobalSort → GlobalSort → Bool
is_same_sort sort.Named sort.Named = true
is_same_sort sort.First sort.First = true
is_same_sort sort.Last sort.Last = true
is_same_sort sort.Present sort.Present = true
is_same_sort sort.Parameter sort.Parameter = true
is_same_sort _ _ = false

-- two that are looked for are one location
abbrev pub is_one_sought : Sought → Sought → Bool
is_one_sought a b = is_same_location (location_sought a) (location_sought b)

-- what is fed to a hash of an instance
abbrev pub home_writes : Home → fed.HashWrites
home_writes None = []
home_writes (Some instance) = fed.str instance

-- what is fed of a location: its name and its instance
abbrev pub sought_writes : Sought → fed.HashWrites
sought_writes s = fed.str s.name.now ++ home_writes (home_of_name s.home)

-- ---- they are compared part by part

globals_alike : (s t : GlobalSort) (a b : List ℕ) → (is_same_sort s t && bytes_eq a b) ≡ is_same_global (global_of_sort s a) (global_of_sort t b)
globals_alike sort.Named sort.Named a b = refl
globals_alike sort.First sort.First a b = refl
globals_alike sort.Last sort.Last a b = refl
globals_alike sort.Present sort.Present a b = refl
globals_alike sort.Parameter sort.Parameter a b = refl
globals_alike _ _ a b = refl

-- two are one location where their homes, sorts and names are
pub by_parts : (a b : Sought) → (is_same_home (home_of_name a.home) (home_of_name b.home) && (is_same_sort a.sort b.sort && bytes_eq a.name.now b.name.now)) ≡ is_one_sought a b
by_parts a b = ap (λ x. is_same_home (home_of_name a.home) (home_of_name b.home) && x) (globals_alike a.sort b.sort a.name.now b.name.now)

-- ---- the test tells whether locations are equal

both_hold : (a b : Bool) → (a && b) ≡ true → (a ≡ true) × (b ≡ true)
both_hold true true h = (refl, refl)
both_hold true false h = cc h
both_hold false b h = cc h

hold_both : (a b : Bool) → a ≡ true → b ≡ true → (a && b) ≡ true
hold_both true true g h = refl
hold_both true false g h = cc h
hold_both false b g h = cc g

home_decides : (a b : Home) → Decides (is_same_home a b) (a ≡ b)
home_decides None None = (λ e. refl, λ e. refl)
home_decides (Some a) (Some b) = (λ h. ap (λ z. Some z) ((bytes_decides a b).0 h), λ h. let e : a ≡ b = cc h in (bytes_decides a b).1 e)
home_decides _ _ = (λ h. cc h, λ h. cc h)

global_decides : (a b : Global) → Decides (is_same_global a b) (a ≡ b)
global_decides (Named a) (Named b) = (λ h. ap (λ z. Named z) ((bytes_decides a b).0 h), λ h. let e : a ≡ b = cc h in (bytes_decides a b).1 e)
global_decides (First a) (First b) = (λ h. ap (λ z. First z) ((bytes_decides a b).0 h), λ h. let e : a ≡ b = cc h in (bytes_decides a b).1 e)
global_decides (Last a) (Last b) = (λ h. ap (λ z. Last z) ((bytes_decides a b).0 h), λ h. let e : a ≡ b = cc h in (bytes_decides a b).1 e)
global_decides (Present a) (Present b) = (λ h. ap (λ z. Present z) ((bytes_decides a b).0 h), λ h. let e : a ≡ b = cc h in (bytes_decides a b).1 e)
global_decides (Parameter a) (Parameter b) = (λ h. ap (λ z. Parameter z) ((bytes_decides a b).0 h), λ h. let e : a ≡ b = cc h in (bytes_decides a b).1 e)
global_decides _ _ = (λ h. cc h, λ h. cc h)

location_decides : (a b : Location) → Decides (is_same_location a b) (a ≡ b)
location_decides a b = (
  λ h. let k = both_hold (is_same_home a.home b.home) (is_same_global a.global b.global) h in
      ap (λ z. record { home = z; global = a.global }) ((home_decides a.home b.home).0 k.0) ∙ ap (λ z. record { home = b.home; global = z }) ((global_decides a.global b.global).0 k.1),
  λ h. hold_both (is_same_home a.home b.home) (is_same_global a.global b.global) ((home_decides a.home b.home).1 (ap (λ z. z.home) h)) ((global_decides a.global b.global).1 (ap (λ z. z.global) h)),
)

-- it is an equivalence
pub sought_equiv : IsEquivalence is_one_sought
sought_equiv = let laws = decided is_same_location location_decides in record {
  refl = λ a. laws.refl (location_sought a);
  symm = λ a b. laws.symm (location_sought a) (location_sought b);
  congr = λ a b c. laws.congr (location_sought a) (location_sought b) (location_sought c);
}

name_of_sort : (s : GlobalSort) (name : List ℕ) → global_name (global_of_sort s name) ≡ name
name_of_sort sort.Named name = refl
name_of_sort sort.First name = refl
name_of_sort sort.Last name = refl
name_of_sort sort.Present name = refl
name_of_sort sort.Parameter name = refl

-- of one location the same is fed
pub sought_alike : (a b : Sought) → is_one_sought a b ≡ true → sought_writes a ≡ sought_writes b
sought_alike a b h =
    let e = (location_decides (location_sought a) (location_sought b)).0 h in
    let name = sym (name_of_sort a.sort a.name.now) ∙ ap (λ (l : Location). global_name l.global) e ∙ name_of_sort b.sort b.name.now in
    ap (λ (n : List ℕ). fed.str n ++ home_writes (home_of_name a.home)) name ∙ ap (λ (l : Location). fed.str b.name.now ++ home_writes l.home) e
