-- How a decimal is written: an optional '-', the whole part, and where the scale is above 0 a point and as many digits.
use Rattle.std.specs.Prelude.{ℕ, zero, suc, int_lt, ◌+◌, ◌/◌, ◌%◌, ◌^◌, Bool, false, not, ◌==◌, ◌&&◌, if◌then◌else◌, pos, unsigned_abs, List, [], ◌∷◌, ◌++◌, length, take, drop}
use Rattle.std.specs.Prelude.{Option, None}
use Rattle.std.specs.Option.{option_map, option_map_or}
use Rattle.std.specs.List.{position, list_all}
use Rattle.std.specs.Char.{is_ascii_digit}
use Rattle.std.specs.Str.Parse.{digits_value}
use Rattle.std.specs.Fmt.{decimal}
use Rattle.ds2_decimal.specs.Decimal.{Decimal}
use Rattle.ds2_decimal.specs.Arithmetic.{new, neg}

-- c is '.'
abbrev pub is_point : ℕ → Bool
is_point c = c == 46

-- each byte is a digit
abbrev pub are_digits : List ℕ → Bool
are_digits ds = list_all is_ascii_digit ds

-- "0", or digits of which the first is not 0
abbrev pub is_whole : List ℕ → Bool
is_whole [] = false
is_whole (d ∷ []) = is_ascii_digit d
is_whole (d ∷ e ∷ ds) = not (d == 48) && are_digits (d ∷ e ∷ ds)

-- the decimal that digits before and behind the point write; none above 38 digits, leading zeros not counted, and above scale 38
abbrev pub of_digits : List ℕ → List ℕ → Option Decimal
of_digits whole fraction = if is_whole whole && are_digits fraction then new (pos (digits_value 10 (whole ++ fraction))) (length fraction) else None

-- the same, where a point stands between them and at least one digit behind it
abbrev pub of_parts : List ℕ → List ℕ → Option Decimal
of_parts whole fraction = if length fraction == 0 then None else of_digits whole fraction

-- the decimal that a text without sign writes
abbrev pub read_unsigned : List ℕ → Option Decimal
read_unsigned text = option_map_or (λ i. of_parts (take i text) (drop (i + 1) text)) (position is_point text) (of_digits text [])

-- the decimal that a text writes; "-0" is 0
abbrev pub read : List ℕ → Option Decimal
read [] = None
read (c ∷ cs) = if c == 45 then option_map neg (read_unsigned cs) else read_unsigned (c ∷ cs)

-- the last k digits of n
abbrev pub last_digits : ℕ → ℕ → List ℕ
last_digits zero n = []
last_digits (suc k) n = last_digits k (n / 10) ++ (48 + n % 10) ∷ []

-- n / 10 ^ s: at least one digit before the point, and where s is above 0 a point and s digits
abbrev pub written_magnitude : ℕ → ℕ → List ℕ
written_magnitude n s = if s == 0 then decimal n else decimal (n / 10 ^ s) ++ 46 ∷ last_digits s n

-- the text of a decimal: '-' below 0, then its magnitude
abbrev pub decimal_text : Decimal → List ℕ
decimal_text d = (if int_lt d.units (pos 0) then 45 ∷ [] else []) ++ written_magnitude (unsigned_abs d.units) d.scale
