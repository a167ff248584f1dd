-- The rows of all tables as numbers: the head of a row's key, and the number of the row behind it.
use Rattle.std.specs.Prelude.{◌≡◌, ℕ, zero, suc, ◌+◌, ◌<◌, ◌≤◌, Bool, false, List, length, map, drop, get_or}
use Rattle.std.specs.List.{All, range_with_len}
use Rattle.std.specs.List.Sorted.{IsPermutation, IsSortedBy}
use Rattle.std.specs.Ordering.{is_lt, nat_cmp, ordering_then}
use Rattle.std.specs.declared.cmp.Ordering.{Ordering}
use Rattle.ds2_table.specs.Loads.{input_rows}
use Rattle.ds2_reading.specs.KeyHeads.{IsDirectedHead, head_of, row_of}
use Rattle.ds2_reading.specs.KeyOrder.{InputKeys, key_of_number, parts_order, parts_in_common}

-- a number with the head of the key of the row whose number it has
pub record IsHeadedNumber (input : InputKeys) (number : ℕ) : Type 0 where
  pub there : row_of number < length (input_rows 0 input.tables)
  pub head : IsDirectedHead input.descending (head_of number) (key_of_number input (row_of number))

-- how two rows stand by their keys, from a BY variable on, and then by their numbers
abbrev pub order_from : InputKeys → ℕ → ℕ → ℕ → Ordering
order_from input level a b =
    ordering_then (parts_order (drop level input.descending) (drop level (key_of_number input a)) (drop level (key_of_number input b))) (nat_cmp a b)

-- a row stands before another one
abbrev pub is_before : InputKeys → ℕ → ℕ → Bool
is_before input a b = is_lt (order_from input 0 a b)

-- no row stands before the one in front of it
abbrev pub AreSortedRows : InputKeys → List ℕ → Type 0
AreSortedRows input numbers = IsSortedBy (λ m n. is_before input (row_of m) (row_of n)) numbers

-- all rows of the tables, each with its head, in BY order, those of equal keys by their numbers
pub record AreInOrder (input : InputKeys) (numbers : List ℕ) : Type 0 where
  pub headed : All (IsHeadedNumber input) numbers
  pub rows : IsPermutation (range_with_len 0 (length (input_rows 0 input.tables))) (map row_of numbers)
  pub sorted : AreSortedRows input numbers

-- ---- runs of equal heads

-- from a place up to another one, or the end, the heads are equal, and the next one is another
pub record IsHeadRun (from end : ℕ) (numbers : List ℕ) : Type 0 where
  pub some : from < end
  pub within : end ≤ length numbers
  pub alike : (k d : ℕ) → from ≤ k → k < end → head_of (get_or numbers k d) ≡ head_of (get_or numbers from d)
  pub ends : (d : ℕ) → end < length numbers → head_of (get_or numbers end d) ≡ head_of (get_or numbers from d) → ⊥

-- between these places the numbers rise
abbrev pub IsRisingRun : (from end : ℕ) → List ℕ → Type 0
IsRisingRun from end numbers = (k d : ℕ) → from ≤ k → k + 1 < end → get_or numbers k d ≤ get_or numbers (k + 1) d

-- the rows between these places are sorted, and all others stay
pub record SettlesRun (input : InputKeys) (from end : ℕ) (old new : List ℕ) : Type 0 where
  pub moved : IsPermutation old new
  pub before : (k d : ℕ) → k < from → get_or new k d ≡ get_or old k d
  pub behind : (k d : ℕ) → end ≤ k → get_or new k d ≡ get_or old k d
  pub heads : (k d : ℕ) → k < length old → head_of (get_or new k d) ≡ head_of (get_or old k d)
  pub sorted : (k d : ℕ) → from ≤ k → k + 1 < end → is_before input (row_of (get_or new (k + 1) d)) (row_of (get_or new k d)) ≡ false

-- ---- equal parts

-- in how many BY variables the row at a place is equal to the row before; none at the first place, and past the last one
abbrev pub common_of_numbers : InputKeys → List ℕ → ℕ → ℕ
common_of_numbers input numbers zero = 0
common_of_numbers input numbers (suc place) =
    parts_in_common (length input.descending) (key_of_number input (row_of (get_or numbers place 0))) (key_of_number input (row_of (get_or numbers (suc place) 0)))

-- beside each number
pub record AreCommonsOf (input : InputKeys) (numbers commons : List ℕ) : Type 0 where
  pub count : length commons ≡ length numbers
  pub each : (place : ℕ) → place < length numbers → get_or commons place 0 ≡ common_of_numbers input numbers place
