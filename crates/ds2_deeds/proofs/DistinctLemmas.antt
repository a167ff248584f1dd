-- Locations that are told once have the numbers of their places.
use Rattle.std.proofs.Common.{◌≡◌, ◌⊎◌, inl, inr, ℕ, zero, suc, Bool, true, false, List, [], ◌∷◌, ◌++◌, length, slice_get, Option, Some, None, option_map, refl, sym, ap, ◌∙◌}
use Rattle.std.proofs.lemmas.Bool.{true≢false}
use Rattle.std.specs.List.{list_any}
use Rattle.std.specs.Prelude.{◌||◌, if◌then◌else◌}
use Rattle.ds2_meaning.specs.Location.{Location, is_same_location}
use Rattle.ds2_program_code.specs.PlacedProgram.{number_of_first, number_of_location}
use Rattle.ds2_locality.proofs.Near.{location_self}
use Rattle.ds2_deeds.specs.NamedLocations.{with_location, with_locations, AreDistinct}
use Rattle.ds2_deeds.proofs.NumberLemmas.{some_is}

-- an item of a list with one item more is an earlier one, or that one
slice_of_more : {X : Type 0} (xs : List X) (x y : X) (n : ℕ) → slice_get (xs ++ x ∷ []) n ≡ Some y → (slice_get xs n ≡ Some y) ⊎ ((length xs ≡ n) × (x ≡ y))
slice_of_more [] x y zero e = inr (refl, some_is x y e)
slice_of_more [] x y (suc n) e = absurd cc
slice_of_more (z ∷ xs) x y zero e = inl e
slice_of_more (z ∷ xs) x y (suc n) e = later (slice_of_more xs x y n e)
  where
    later : ((slice_get xs n ≡ Some y) ⊎ ((length xs ≡ n) × (x ≡ y))) → (slice_get (z ∷ xs) (suc n) ≡ Some y) ⊎ ((length (z ∷ xs) ≡ suc n) × (x ≡ y))
    later (inl f) = inl f
    later (inr f) = inr (ap suc f.0, f.1)

-- the first item that passes a test stays the first one
kept_by : (b : Bool) (o more : Option ℕ) (n : ℕ) → ((k : ℕ) → o ≡ Some k → more ≡ Some k) → (if b then Some 0 else option_map (λ k. suc k) o) ≡ Some n → (if b then Some 0 else option_map (λ k. suc k) more) ≡ Some n
kept_by true o more n later e = e
kept_by false None more n later e = absurd cc
kept_by false (Some k) more n later e = ap (λ x. option_map (λ j. suc j) x) (later k refl) ∙ e

first_kept : {X : Type 0} (test : X → Bool) (xs ys : List X) (n : ℕ) → number_of_first test xs ≡ Some n → number_of_first test (xs ++ ys) ≡ Some n
first_kept test [] ys n e = absurd cc
first_kept test (x ∷ xs) ys n e = kept_by (test x) (number_of_first test xs) (number_of_first test (xs ++ ys)) n (λ k f. first_kept test xs ys k f) e

-- behind items that do not pass, the next one has the number of its place
last_by : (b rest : Bool) (o : Option ℕ) (n : ℕ) → (rest ≡ false → o ≡ Some n) → (b || rest) ≡ false → (if b then Some 0 else option_map (λ k. suc k) o) ≡ Some (suc n)
last_by true rest o n later e = absurd (true≢false e)
last_by false rest o n later e = ap (λ x. option_map (λ k. suc k) x) (later e)

first_at_last : {X : Type 0} (test : X → Bool) (xs : List X) (x : X) → test x ≡ true → list_any test xs ≡ false → number_of_first test (xs ++ x ∷ []) ≡ Some (length xs)
first_at_last test [] x is none = ap (λ b. if b then Some 0 else None) is
first_at_last test (y ∷ xs) x is none = last_by (test y) (list_any test xs) (number_of_first test (xs ++ x ∷ [])) (length xs) (λ f. first_at_last test xs x is f) none

-- one location more
distinct_by : (ls : List Location) (at : Location) (b : Bool) → list_any (is_same_location at) ls ≡ b → AreDistinct ls → AreDistinct (if b then ls else ls ++ at ∷ [])
distinct_by ls at true any distinct n other e = distinct n other e
distinct_by ls at false any distinct n other e = told (slice_of_more ls at other n e)
  where
    told : ((slice_get ls n ≡ Some other) ⊎ ((length ls ≡ n) × (at ≡ other))) → number_of_location (ls ++ at ∷ []) other ≡ Some n
    told (inl f) = first_kept (is_same_location other) ls (at ∷ []) n (distinct n other f)
    told (inr f) =
        ap (λ x. number_of_location (ls ++ at ∷ []) x) (sym f.1) ∙ first_at_last (is_same_location at) ls at (location_self at) any ∙ ap (λ k. Some k) f.0

all_distinct : (ls more : List Location) → AreDistinct ls → AreDistinct (with_locations ls more)
all_distinct ls [] distinct = distinct
all_distinct ls (at ∷ more) distinct = all_distinct (with_location ls at) more (distinct_by ls at (list_any (is_same_location at) ls) refl distinct)

none_distinct : AreDistinct []
none_distinct n at e = absurd cc

pub once_told : (ls : List Location) → AreDistinct (with_locations [] ls)
once_told ls = all_distinct [] ls none_distinct
