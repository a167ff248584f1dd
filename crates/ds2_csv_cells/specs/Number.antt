-- Integers: which cells spell one, and which.
use Rattle.std.specs.Prelude.{ℕ, zero, suc, ◌+◌, ◌-◌, ◌*◌, ◌^◌, Bool, ◌&&◌, not, ◌==◌, nat_lt, nat_le, [], ◌∷◌, length, slice_index, Option, Some, None, option_and_then, ℤ, pos, negsuc, if◌then◌else◌}
use Rattle.std.specs.Str.{all_ascii_digits}
use Rattle.ds2_base.specs.Bytes.{Bytes}

-- at least one byte, and where there are more the first one is no 0
abbrev pub begins_well : Bytes → Bool
begins_well ds = nat_lt 0 (length ds) && not (nat_lt 1 (length ds) && slice_index ds 0 == 48)

-- the number that digits spell behind those of n
abbrev pub number_from : ℕ → Bytes → ℕ
number_from n [] = n
number_from n (c ∷ cs) = number_from (n * 10 + (c - 48)) cs

-- the size of an integer that is spelled by these digits, which have no 0 too many in front; none above 2^63
unfoldable pub size_of : Bytes → Option ℕ
size_of ds = if begins_well ds && all_ascii_digits ds && nat_le (number_from 0 ds) (2 ^ 63) then Some (number_from 0 ds) else None

-- the integer below 0 of a size; 0 has no sign
abbrev pub below_zero : ℕ → Option ℤ
below_zero zero = None
below_zero (suc n) = Some (negsuc n)

-- the integer of a size without a sign, below 2^63
abbrev pub not_below_zero : ℕ → Option ℤ
not_below_zero n = if nat_lt n (2 ^ 63) then Some (pos n) else None

-- the integer that a cell spells: `0`, or digits without a leading 0 and maybe `-` before them, within 64 bits
unfoldable pub integer_of : Bytes → Option ℤ
integer_of [] = None
integer_of (c ∷ cs) = if c == 45 then option_and_then below_zero (size_of cs) else option_and_then not_below_zero (size_of (c ∷ cs))
