-- Searches among locations in order.
use Rattle.std.specs.Prelude.{ℕ, ◌+◌, bytes_eq, Bool, true, false, List, [], ◌∷◌, Option, Some, None}
use Rattle.ds2_meaning.specs.Location.{Location, is_same_location}
use Rattle.ds2_numbering.specs.declared.search.Search.{Search}

-- a number that was found, or this one where it is the one sought
abbrev pub first_or_this : Option ℕ → Bool → ℕ → Option ℕ
first_or_this (Some n) is_sought number = Some n
first_or_this None true number = Some number
first_or_this None false number = None

-- a search that has not begun
abbrev pub unbegun : Search
unbegun = record { found = None; seen = 0 }

-- one location more has been looked at
abbrev pub looked_on : Search → Bool → Search
looked_on s is_sought = record { found = first_or_this s.found is_sought s.seen; seen = s.seen + 1 }

-- items have been looked at in order
abbrev pub search_by : {X : Type 0} → (X → Bool) → List X → Search → Search
search_by test [] s = s
search_by test (x ∷ xs) s = search_by test xs (looked_on s (test x))

-- locations have been looked at in order
abbrev pub search_among : Location → List Location → Search → Search
search_among at locations s = search_by (λ other. is_same_location at other) locations s

-- names have been looked at in order
abbrev pub search_names : List ℕ → List (List ℕ) → Search → Search
search_names name names s = search_by (λ other. bytes_eq name other) names s
