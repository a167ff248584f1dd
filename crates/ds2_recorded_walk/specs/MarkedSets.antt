-- Sets of locations by marks of the numbers that are not in them.
use Rattle.std.specs.List.{range_with_len}
use Rattle.std.specs.Prelude.{ℕ, ◌+◌, ◌-◌, nat_lt, Bool, false, not, ◌&&◌, if◌then◌else◌, List, [], ◌∷◌, map}
use Rattle.ds2_recorded_walk.specs.declared.number_marks.NumberMarks.{NumberMarks}
use Rattle.ds2_recorded_walk.specs.LocationBits.{is_on}

-- the value of a number, where there is a value for each one from a first number on
abbrev pub is_on_from : ℕ → List Bool → ℕ → Bool
is_on_from from bits n = if nat_lt n from then false else is_on bits (n - from)

-- a number is marked
abbrev pub is_marked : NumberMarks → ℕ → Bool
is_marked m n = is_on_from m.from m.marks n

-- so many locations but those whose numbers are marked
abbrev pub all_but_marked : ℕ → NumberMarks → List Bool
all_but_marked count out = map (λ n. not (is_marked out n)) (range_with_len 0 count)

-- the marks, from a first number on, of those numbers that are not in a set
abbrev pub marks_without : ℕ → List Bool → List Bool → List Bool
marks_without from [] bits = []
marks_without from (mark ∷ marks) bits = (mark && not (is_on bits from)) ∷ marks_without (from + 1) marks bits
