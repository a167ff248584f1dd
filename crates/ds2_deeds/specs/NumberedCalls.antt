-- What deeds may call, by numbers, and what deeds by numbers say of a location.
use Rattle.std.specs.List.{list_any}
use Rattle.std.specs.Prelude.{◌≡◌, ◌<◌, ℕ, zero, suc, ◌==◌, Bool, false, if◌then◌else◌, List, [], ◌∷◌, ◌++◌, length, flat_map, fold, slice_get, slice_index_or, Option, Some, None}
use Rattle.ds2_deeds.specs.declared.deed.NumberedDeed.{NumberedDeed}
use Rattle.ds2_deeds.specs.declared.deed.NumberedDeed.TheVariants as numbered

-- the methods that a deed calls
abbrev pub number_called : NumberedDeed → List ℕ
number_called (numbered.Call number) = number ∷ []
number_called _ = []

-- the methods that deeds call, in order
abbrev pub numbers_called : List NumberedDeed → List ℕ
numbers_called deeds = flat_map number_called deeds

-- a number is among these
abbrev pub is_one_of_numbers : List ℕ → ℕ → Bool
is_one_of_numbers numbers n = list_any (λ other. other == n) numbers

-- one more number, where it is not among these
abbrev pub with_one_number : List ℕ → ℕ → List ℕ
with_one_number numbers n = if is_one_of_numbers numbers n then numbers else numbers ++ n ∷ []

-- each mark tells whether the number of its place is among these
abbrev pub AreMarked : List ℕ → List Bool → Type 0
AreMarked numbers marks = (n : ℕ) → n < length marks → slice_index_or marks n false ≡ is_one_of_numbers numbers n

-- further numbers, in order
abbrev pub with_numbers : List ℕ → List ℕ → List ℕ
with_numbers numbers more = fold with_one_number numbers more

-- what is there, and else no deeds
abbrev pub deeds_or_none : Option (List NumberedDeed) → List NumberedDeed
deeds_or_none None = []
deeds_or_none (Some deeds) = deeds

-- the deeds of the method of this number
abbrev pub deeds_numbered : List (List NumberedDeed) → ℕ → List NumberedDeed
deeds_numbered all n = deeds_or_none (slice_get all n)

-- the methods that the method of this number calls
abbrev pub calls_by_number : List (List NumberedDeed) → ℕ → List ℕ
calls_by_number all n = numbers_called (deeds_numbered all n)

-- those and the methods that they call, calls so many deep
abbrev pub numbers_reached : List (List NumberedDeed) → ℕ → List ℕ → List ℕ
numbers_reached all zero numbers = numbers
numbers_reached all (suc n) numbers = numbers_reached all n (with_numbers numbers (flat_map (calls_by_number all) numbers))

-- the methods that deeds may call, calls so many deep
abbrev pub may_call : List (List NumberedDeed) → ℕ → List NumberedDeed → List ℕ
may_call all rounds deeds = numbers_reached all rounds (with_numbers [] (numbers_called deeds))

-- deeds, and those of all methods that they may call
abbrev pub with_called : List (List NumberedDeed) → ℕ → List NumberedDeed → List NumberedDeed
with_called all rounds deeds = deeds ++ flat_map (deeds_numbered all) (may_call all rounds deeds)

-- a deed changes the location of this number
abbrev pub changes_number : ℕ → NumberedDeed → Bool
changes_number n (numbered.Change other) = other == n
changes_number n _ = false

-- a deed mentions the location of this number
abbrev pub mentions_number : ℕ → NumberedDeed → Bool
mentions_number n (numbered.Mention other) = other == n
mentions_number n _ = false
