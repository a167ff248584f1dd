-- Sets of locations, as a truth value for each of the locations in order.
use Rattle.std.specs.Prelude.{ℕ, Bool, false, ◌&&◌, ◌||◌, List, [], ◌∷◌, slice_get, Option, Some, None}
use Rattle.ds2_meaning.specs.Location.{Location}
use Rattle.ds2_locality.specs.Walk.{DirtySet}
use Rattle.ds2_program_code.specs.PlacedProgram.{number_of_location}

-- a value that is there, and no one
abbrev pub or_off : Option Bool → Bool
or_off None = false
or_off (Some bit) = bit

-- the location of a number is in a set
abbrev pub is_on : List Bool → ℕ → Bool
is_on bits number = or_off (slice_get bits number)

-- the value of the first location
abbrev pub first_bit : List Bool → Bool
first_bit [] = false
first_bit (bit ∷ bits) = bit

-- those of the later ones
abbrev pub later_bits : List Bool → List Bool
later_bits [] = []
later_bits (bit ∷ bits) = bits

-- the locations that are in one of two sets
abbrev pub either_on : List Bool → List Bool → List Bool
either_on [] others = others
either_on (bit ∷ bits) others = (bit || first_bit others) ∷ either_on bits (later_bits others)

-- those that are in both
abbrev pub both_on : List Bool → List Bool → List Bool
both_on [] others = []
both_on (bit ∷ bits) others = (bit && first_bit others) ∷ both_on bits (later_bits others)

-- the location of this number, where there is one, is in a set
abbrev pub is_number_on : List Bool → Option ℕ → Bool
is_number_on bits None = false
is_number_on bits (Some number) = is_on bits number

-- a set of these locations
abbrev pub set_of_bits : List Location → List Bool → DirtySet
set_of_bits locations bits = λ at. is_number_on bits (number_of_location locations at)
