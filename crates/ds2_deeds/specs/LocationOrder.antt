-- Locations in an order of their own: by home, sort and name. What it does not tell apart is one location.
use Rattle.std.specs.Prelude.{◌≡◌, ℕ, ◌&&◌, ◌==◌, bytes_eq, List, [], Some, None, refl}
use Rattle.std.proofs.Common.{◌∙◌}
use Rattle.std.specs.declared.cmp.Ordering.{Ordering}
use Rattle.std.specs.Ordering.{nat_cmp, ordering_then, is_eq}
use Rattle.std.specs.Cmp.{IsTotalOrder, both_tied, nat_cmp_total, on_total, then_total, unsigned_ties}
use Rattle.std.specs.Cmp.Lexicographic.{slice_cmp, nat_list_cmp_total, texts_ties}
use Rattle.ds2_meaning.specs.declared.location.Global.{Global}
use Rattle.ds2_meaning.specs.declared.location.Global.TheVariants.{Named, First, Last, Present, Parameter}
use Rattle.ds2_meaning.specs.Location.{Home, Location, is_same_home, is_same_global, is_same_location}
use Rattle.ds2_meaning.specs.ProgramMeaning.{global_name}
use Rattle.ds2_deeds.specs.declared.location.LocationName.{LocationName}
use Rattle.ds2_deeds.specs.NamedLocations.{location_named}

-- the program's own home stands before those of instances
abbrev pub home_number : Home → ℕ
home_number None = 0
home_number (Some name) = 1

-- the name of the instance
abbrev pub home_text : Home → List ℕ
home_text None = []
home_text (Some name) = name

-- the place of a global's sort
abbrev pub sort_number : Global → ℕ
sort_number (Named name) = 0
sort_number (First name) = 1
sort_number (Last name) = 2
sort_number (Present name) = 3
sort_number (Parameter name) = 4

-- by number and then by name
abbrev pub home_cmp : Home → Home → Ordering
home_cmp a b = ordering_then (nat_cmp (home_number a) (home_number b)) (slice_cmp nat_cmp (home_text a) (home_text b))

-- by sort and then by name
abbrev pub global_cmp : Global → Global → Ordering
global_cmp a b = ordering_then (nat_cmp (sort_number a) (sort_number b)) (slice_cmp nat_cmp (global_name a) (global_name b))

-- by home and then by global
abbrev pub location_cmp : Location → Location → Ordering
location_cmp a b = ordering_then (home_cmp a.home b.home) (global_cmp a.global b.global)

-- the order of the locations that are named
abbrev pub named_cmp : LocationName → LocationName → Ordering
named_cmp a b = location_cmp (location_named a) (location_named b)

-- ---- it is a total order

home_total : IsTotalOrder home_cmp
home_total = then_total (on_total home_number nat_cmp_total) (on_total home_text nat_list_cmp_total)

global_total : IsTotalOrder global_cmp
global_total = then_total (on_total sort_number nat_cmp_total) (on_total global_name nat_list_cmp_total)

location_total : IsTotalOrder location_cmp
location_total = then_total (on_total (λ (l : Location). l.home) home_total) (on_total (λ (l : Location). l.global) global_total)

-- the order of named locations is total
pub named_total : IsTotalOrder named_cmp
named_total = on_total location_named location_total

-- ---- it tells locations apart

same_home : (a b : Home) → is_same_home a b ≡ ((home_number a == home_number b) && bytes_eq (home_text a) (home_text b))
same_home None None = refl
same_home None (Some b) = refl
same_home (Some a) None = refl
same_home (Some a) (Some b) = refl

same_global : (a b : Global) → is_same_global a b ≡ ((sort_number a == sort_number b) && bytes_eq (global_name a) (global_name b))
same_global (Named a) (Named b) = refl
same_global (First a) (First b) = refl
same_global (Last a) (Last b) = refl
same_global (Present a) (Present b) = refl
same_global (Parameter a) (Parameter b) = refl
same_global _ _ = refl

home_tied : (a b : Home) → is_same_home a b ≡ is_eq (home_cmp a b)
home_tied a b = same_home a b ∙ both_tied _ _ _ _ (unsigned_ties (home_number a) (home_number b)) (texts_ties (home_text a) (home_text b))

global_tied : (a b : Global) → is_same_global a b ≡ is_eq (global_cmp a b)
global_tied a b = same_global a b ∙ both_tied _ _ _ _ (unsigned_ties (sort_number a) (sort_number b)) (texts_ties (global_name a) (global_name b))

-- two locations are one where their order ties them
pub location_tied : (a b : Location) → is_same_location a b ≡ is_eq (location_cmp a b)
location_tied a b = both_tied _ _ _ _ (home_tied a.home b.home) (global_tied a.global b.global)
