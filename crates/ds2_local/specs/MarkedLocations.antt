-- Locations that deeds name, by their numbers.
use Rattle.std.specs.List.{list_any, filter, range_with_len}
use Rattle.std.specs.Prelude.{ℕ, true, Bool, List, slice_set, Option, Some, None}
use Rattle.ds2_deeds.specs.declared.deed.NumberedDeed.{NumberedDeed}
use Rattle.ds2_deeds.specs.declared.deed.NumberedDeed.TheVariants as numbered
use Rattle.ds2_deeds.specs.NumberedCalls.{mentions_number}

-- the number of the location that a deed mentions
abbrev pub number_mentioned : NumberedDeed → Option ℕ
number_mentioned (numbered.Mention number) = Some number
number_mentioned _ = None

-- the number of the location that a deed changes
abbrev pub number_changed : NumberedDeed → Option ℕ
number_changed (numbered.Change number) = Some number
number_changed _ = None

-- a set with the location of a number, where there is such a number
abbrev pub with_location_on : List Bool → Option ℕ → List Bool
with_location_on bits None = bits
with_location_on bits (Some number) = slice_set bits number true

-- the numbers of those of so many locations that deeds mention, in order
abbrev pub numbers_mentioned : (count : ℕ) → List NumberedDeed → List ℕ
numbers_mentioned count deeds = filter (λ n. list_any (mentions_number n) deeds) (range_with_len 0 count)
