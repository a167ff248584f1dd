-- What a table of first places tells.
use Rattle.std.proofs.Common.{◌≡◌, ℕ, Bool, true, false, not, ◌||◌, ◌&&◌, List, [], ◌∷◌, ◌++◌, bytes_eq, Option, Some, None, refl, sym, ap, ◌∙◌}
use Rattle.std.specs.Prelude.{if◌then◌else◌, map, filter}
use Rattle.std.specs.List.{list_any}
use Rattle.std.proofs.lemmas.Slice.Eq.{bytes_eq-Decides}
use Rattle.ds2_base.specs.declared.place.Place.{Place}
use Rattle.ds2_names.specs.NameRules.{from_each, place_unless}
use Rattle.ds2_names.specs.SourceUnit.{PlacedName, is_earlier}
use Rattle.ds2_scope.specs.Earliest.{earlier_of, earliest}
use Rattle.ds2_scope.specs.NamedPlaces.{place_if_named, first_place_of, stands_behind, is_given_before, place_if_before}
use Rattle.ds2_scope.proofs.EarliestLemmas.{none_right, earlier_of_assoc, behind_either}

-- a place stands behind the first place of a name where it stands behind one of its places
pub behind_first : (all : List PlacedName) (name : List ℕ) (p : Place)
    → stands_behind (first_place_of all name) p ≡ list_any (λ (o : PlacedName). bytes_eq o.name name && is_earlier o.place p) all
behind_first [] name p = refl
behind_first (n ∷ all) name p =
    behind_either (place_if_named name n) (first_place_of all name) p ∙ (λ i. here (bytes_eq n.name name) i || behind_first all name p i)
  where
    here : (t : Bool) → stands_behind (if t then Some n.place else None) p ≡ (t && is_earlier n.place p)
    here true = refl
    here false = refl

-- one name more
pub one_more_first : (x : Option Place) (n : PlacedName) (names : List PlacedName) (name : List ℕ)
    → earlier_of (earlier_of x (place_if_named name n)) (first_place_of names name) ≡ earlier_of x (first_place_of (n ∷ names) name)
one_more_first x n names name = earlier_of_assoc x (place_if_named name n) (first_place_of names name)

-- one name before others, where it is a later one or none
one_later : (n : PlacedName) (t : Bool) (rest : List PlacedName) (places : List Place) → map (λ (m : PlacedName). m.place) rest ≡ places
    → map (λ (m : PlacedName). m.place) (if t then n ∷ rest else rest) ≡ place_unless (not t) n.place ++ places
one_later n true rest places h = ap (λ ps. n.place ∷ ps) h
one_later n false rest places h = h

-- the later ones of names that are given twice, one by one
pub later_parts : (all names : List PlacedName) → map (λ (n : PlacedName). n.place) (filter (is_given_before all) names) ≡ from_each (place_if_before all) names
later_parts all [] = refl
later_parts all (n ∷ names) = one_later n (is_given_before all n) (filter (is_given_before all) names) (from_each (place_if_before all) names) (later_parts all names)

-- a table in which a name has the earlier of its place and another one
pub one_more_noted : (old : List ℕ → Option Place) (n : PlacedName) (first : Place) (name : List ℕ) → Some first ≡ earlier_of (old n.name) (Some n.place)
    → (if bytes_eq n.name name then Some first else old name) ≡ earlier_of (old name) (place_if_named name n)
one_more_noted old n first name h = by (bytes_eq n.name name) refl
  where
    by : (t : Bool) → bytes_eq n.name name ≡ t → (if t then Some first else old name) ≡ earlier_of (old name) (if t then Some n.place else None)
    by true e = h ∙ ap (λ x. earlier_of (old x) (Some n.place)) ((bytes_eq-Decides n.name name).0 e)
    by false e = sym (none_right (old name))
