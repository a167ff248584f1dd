-- Words: names of files, and numbers.
use Rattle.std.specs.Prelude.{ℕ, ◌+◌, ◌-◌, ◌*◌, ◌==◌, ◌&&◌, ◌||◌, Bool, not, nat_eq, nat_le, nat_lt, List, [], ◌∷◌, length, slice_index, codes, if◌then◌else◌, Option, Some, None}
use Rattle.std.specs.List.{list_all, ends_with}
use Rattle.std.specs.Char.{is_ascii_alphanumeric, is_ascii_digit}

-- ASCII letters, digits, `_`, `-` and `.`
abbrev pub is_file_char : ℕ → Bool
is_file_char c = is_ascii_alphanumeric c || (c == 95) || (c == 45) || (c == 46)

-- 5 to 100 such characters
abbrev pub has_name_form : List ℕ → Bool
has_name_form word = nat_le 5 (length word) && nat_le (length word) 100 && list_all is_file_char word

-- the first of them neither `-` nor `.`
abbrev pub is_file_name : List ℕ → Bool
is_file_name word = not (slice_index word 0 == 45) && not (slice_index word 0 == 46) && has_name_form word

-- such a name that ends in `.ds2`
abbrev pub is_source : List ℕ → Bool
is_source word = is_file_name word && ends_with nat_eq word (codes ".ds2")

-- digits, the first of them not 0
abbrev pub is_number : List ℕ → Bool
is_number word = nat_lt 0 (length word) && not (slice_index word 0 == 48) && list_all is_ascii_digit word

-- the number that digits write after the number so far
abbrev pub decimal_from : ℕ → List ℕ → ℕ
decimal_from number [] = number
decimal_from number (digit ∷ digits) = decimal_from (10 * number + (digit - 48)) digits

-- the number that a word writes, where it is none above `most`
abbrev pub number_within : ℕ → List ℕ → Option ℕ
number_within most word = if is_number word && nat_le (decimal_from 0 word) most then Some (decimal_from 0 word) else None
