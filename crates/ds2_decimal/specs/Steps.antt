-- What the private functions give, over plain numbers: the pieces of which the operations are made.
use Rattle.std.specs.Prelude.{ℕ, ◌*◌, ◌/◌, ◌%◌, ◌^◌, Bool, true, false, ◌&&◌, nat_lt, if◌then◌else◌, ℤ, pos, neg_ℤ, ◌*ℤ◌, unsigned_abs, List, Option, Some, None}
use Rattle.std.specs.Str.Parse.{digits_value_after}
use Rattle.ds2_decimal.specs.Decimal.{is_within}
use Rattle.ds2_decimal.specs.Rounding.{moved_sign, rounded_half_up, round}
use Rattle.ds2_decimal.specs.Text.{are_digits}
use Rattle.ds2_decimal.specs.declared.dec.TheConstants.{MOST_DIGITS}

-- the number of magnitude n below 0, or not
abbrev pub signed_number : Bool → ℕ → ℤ
signed_number true n = neg_ℤ (pos n)
signed_number false n = pos n

-- z * 10 ^ k, or none where that has more than 38 digits
abbrev pub raised : ℤ → ℕ → Option ℤ
raised z k = if is_within MOST_DIGITS (z *ℤ pos (10 ^ k)) then Some (z *ℤ pos (10 ^ k)) else None

-- n * 10 ^ k / b rounded, or none where that has more than 38 digits
abbrev pub quotient : ℕ → ℕ → ℕ → Option ℕ
quotient n k b = let q = rounded_half_up (n * 10 ^ k) b in if nat_lt q (10 ^ MOST_DIGITS) then Some q else None

-- n * 10 ^ k / b rounded down, and the rest, or none where the quotient has more than 38 digits
abbrev pub quotient_and_rest : ℕ → ℕ → ℕ → Option (ℕ × ℕ)
quotient_and_rest n k b = let m = n * 10 ^ k in if nat_lt (m / b) (10 ^ MOST_DIGITS) then Some (m / b, m % b) else None

-- a * 10 ^ k / b rounded, a half away from zero, or none where that has more than 38 digits; a negative sign of b is moved to a
abbrev pub signed_quotient : ℤ → ℕ → ℤ → Option ℤ
signed_quotient a k b = let q = round (moved_sign b a *ℤ pos (10 ^ k)) (unsigned_abs b) in if is_within MOST_DIGITS q then Some q else None

-- the number that digits write behind those of n, or none where there is another character or that has more than 38 digits
abbrev pub digits_behind : ℕ → List ℕ → Option ℕ
digits_behind n ds = if are_digits ds && nat_lt (digits_value_after 10 n ds) (10 ^ MOST_DIGITS) then Some (digits_value_after 10 n ds) else None
