-- The number of the first item that passes a test, one item after the other.
use Rattle.std.proofs.Common.{◌≡◌, ◌<◌, ℕ, zero, suc, ◌+◌, Bool, true, false, List, [], ◌∷◌, length, drop, map, get_or, Option, Some, None, option_map, refl, sym, ap, ◌∙◌, arith}
use Rattle.std.specs.List.{list_any}
use Rattle.std.specs.Prelude.{◌||◌, if◌then◌else◌, slice_get, unwrap_or, is_some}
use Rattle.ds2_meaning.specs.Location.{Location, is_same_location}
use Rattle.ds2_program_code.specs.PlacedProgram.{number_of_first, number_of_location}
use Rattle.ds2_locality.proofs.Frame.{location_is}
use Rattle.std.proofs.lemmas.Option.{slice_get-map}
use Rattle.ds2_deeds.specs.declared.location.LocationName.{LocationName}
use Rattle.ds2_deeds.specs.NamedLocations.{location_named, locations_named, AreDistinct}
use Rattle.ds2_deeds.proofs.DeedLemmas.{drop_next}

-- a number among the items from a place on
abbrev pub number_from : {X : Type 0} → (X → Bool) → ℕ → List X → Option ℕ
number_from test at xs = option_map (λ m. at + m) (number_of_first test xs)

pub from_first : (o : Option ℕ) → option_map (λ m. 0 + m) o ≡ o
from_first None = refl
from_first (Some m) = let e : 0 + m ≡ m = omega arith in ap (λ n. Some n) e

moved_on : (k : ℕ) (o : Option ℕ) → option_map (λ m. k + m) (option_map (λ m. suc m) o) ≡ option_map (λ m. k + 1 + m) o
moved_on k None = refl
moved_on k (Some m) = let e : k + suc m ≡ k + 1 + m = omega arith in ap (λ n. Some n) e

-- an item that passes has the number of its place
pub number_here : {X Y : Type 0} (test : Y → Bool) (f : X → Y) (xs : List X) (i : ℕ) (x : X) (whole : Option ℕ) → i < length xs → x ≡ get_or xs i x → test (f x) ≡ true
    → number_from test i (map f (drop i xs)) ≡ whole → Some i ≡ whole
number_here test f xs i x whole lt here is before =
    let e : i ≡ i + 0 = omega arith in
    ap (λ n. Some n) e ∙ ap (λ (b : Bool). option_map (λ m. i + m) (if b then Some 0 else option_map (λ m. suc m) (number_of_first test (map f (drop (i + 1) xs))))) (sym is)
    ∙ ap (λ l. number_from test i (map f l)) (sym (drop_next xs i x lt here)) ∙ before

-- behind one that does not, the search goes on
pub number_later : {X Y : Type 0} (test : Y → Bool) (f : X → Y) (xs : List X) (i : ℕ) (x : X) (whole : Option ℕ) → i < length xs → x ≡ get_or xs i x → test (f x) ≡ false
    → number_from test i (map f (drop i xs)) ≡ whole → number_from test (i + 1) (map f (drop (i + 1) xs)) ≡ whole
number_later test f xs i x whole lt here is before =
    sym (moved_on i (number_of_first test (map f (drop (i + 1) xs))))
    ∙ ap (λ (b : Bool). option_map (λ m. i + m) (if b then Some 0 else option_map (λ m. suc m) (number_of_first test (map f (drop (i + 1) xs))))) (sym is)
    ∙ ap (λ l. number_from test i (map f l)) (sym (drop_next xs i x lt here)) ∙ before

-- an item passes a test where there is the number of the first one
any_by : (b rest : Bool) (o : Option ℕ) → rest ≡ is_some o → (b || rest) ≡ is_some (if b then Some 0 else option_map (λ n. suc n) o)
any_by true rest o e = refl
any_by false rest None e = e
any_by false rest (Some n) e = e

pub any_numbered : {X : Type 0} (test : X → Bool) (xs : List X) → list_any test xs ≡ is_some (number_of_first test xs)
any_numbered test [] = refl
any_numbered test (x ∷ xs) = any_by (test x) (list_any test xs) (number_of_first test xs) (any_numbered test xs)

-- ---- numbers

pub some_is : {A : Type 0} (a b : A) → Some a ≡ Some b → a ≡ b
some_is a b e = ap (λ o. unwrap_or o a) e

-- the location of its number is a location itself
numbered_next : (at x : Location) (ls : List Location) (b : Bool) (n : ℕ) → is_same_location at x ≡ b
    → ((k : ℕ) → number_of_location ls at ≡ Some k → slice_get ls k ≡ Some at)
    → (if b then Some 0 else option_map (λ m. suc m) (number_of_location ls at)) ≡ Some n → slice_get (x ∷ ls) n ≡ Some at
numbered_next at x ls true n same later e = ap (λ m. slice_get (x ∷ ls) m) (sym (some_is zero n e)) ∙ ap (λ l. Some l) (sym (location_is at x same))
numbered_next at x ls false n same later e = of_later (number_of_location ls at) n refl e
  where
    of_later : (o : Option ℕ) (n : ℕ) → number_of_location ls at ≡ o → option_map (λ m. suc m) o ≡ Some n → slice_get (x ∷ ls) n ≡ Some at
    of_later None n f e = absurd cc
    of_later (Some k) n f e = ap (λ m. slice_get (x ∷ ls) m) (sym (some_is (suc k) n e)) ∙ later k f

pub numbered : (ls : List Location) (at : Location) (n : ℕ) → number_of_location ls at ≡ Some n → slice_get ls n ≡ Some at
numbered [] at n e = absurd cc
numbered (x ∷ ls) at n e = numbered_next at x ls (is_same_location at x) n refl (λ k f. numbered ls at k f) e

-- a location that is found at a number has it, where each location stands once
pub number_at : (names : List LocationName) (number : ℕ) (other : LocationName) (at : Location) → AreDistinct (locations_named names) → slice_get names number ≡ Some other → is_same_location at (location_named other) ≡ true
    → Some number ≡ number_of_location (locations_named names) at
number_at names number other at distinct here same =
    sym (distinct number at (slice_get-map location_named names number ∙ ap (λ o. option_map location_named o) here ∙ ap (λ l. Some l) (sym (location_is at (location_named other) same))))
