-- The earliest place of each name, as a table by names tells it.
use Rattle.std.specs.Prelude.{◌≡◌, ℕ, Bool, false, nat_eq, bytes_eq, not, ◌&&◌, if◌then◌else◌, List, [], ◌∷◌, Option, Some, None}
use Rattle.std.specs.Cmp.Lexicographic.{pointwise}
use Rattle.std.specs.HashMap.{HashMap, get}
use Rattle.std.specs.List.{list_any}
use Rattle.ds2_base.specs.declared.place.Place.{Place}
use Rattle.ds2_names.specs.NameRules.{place_unless}
use Rattle.ds2_names.specs.SourceUnit.{PlacedName, is_earlier}
use Rattle.ds2_scope.specs.Earliest.{earlier_of}

-- the place of a name, where the name is this one
abbrev pub place_if_named : List ℕ → PlacedName → Option Place
place_if_named name n = if bytes_eq n.name name then Some n.place else None

-- the earliest place at which this name is given
abbrev pub first_place_of : List PlacedName → List ℕ → Option Place
first_place_of [] name = None
first_place_of (n ∷ names) name = earlier_of (place_if_named name n) (first_place_of names name)

-- a place stands behind another one, where there is one
abbrev pub stands_behind : Option Place → Place → Bool
stands_behind None place = false
stands_behind (Some first) place = is_earlier first place

-- a name of a list is given at an earlier place
abbrev pub is_given_before : List PlacedName → PlacedName → Bool
is_given_before all n = list_any (λ (o : PlacedName). bytes_eq o.name n.name && is_earlier o.place n.place) all

-- the place of a name that a list gives at an earlier place
abbrev pub place_if_before : List PlacedName → PlacedName → List Place
place_if_before all n = place_unless (not (is_given_before all n)) n.place

-- a table has for each name the earliest place at which these names give it
abbrev pub HasFirstPlaces : {S : Type 0} → HashMap (List ℕ) Place S → List PlacedName → Type 0
HasFirstPlaces firsts names = (name : List ℕ) → get (pointwise nat_eq) firsts name ≡ first_place_of names name
