-- Division of whole numbers with a rounded quotient.
use Rattle.std.specs.Prelude.{ℕ, suc, ◌+◌, ◌*◌, ◌/◌, Bool, ◌==◌, ℤ, pos, negsuc, neg_ℤ, unsigned_abs}
use Rattle.std.specs.Float.{ratio_round_half_up}

-- z is 0
abbrev pub is_zero : ℤ → Bool
is_zero z = unsigned_abs z == 0

-- z, with the other sign where the divisor is below 0
abbrev pub moved_sign : ℤ → ℤ → ℤ
moved_sign (pos n) z = z
moved_sign (negsuc n) z = neg_ℤ z

-- n / b rounded to the nearest, a half upwards
abbrev pub rounded_half_up : ℕ → ℕ → ℕ
rounded_half_up n b = ratio_round_half_up n b

-- a / b rounded to the nearest, a half away from zero
abbrev pub round : ℤ → ℕ → ℤ
round (pos n) b = pos (rounded_half_up n b)
round (negsuc n) b = neg_ℤ (pos (rounded_half_up (suc n) b))

-- a / b rounded down
abbrev pub round_down : ℤ → ℕ → ℤ
round_down (pos n) b = pos (n / b)
round_down (negsuc n) b = negsuc (n / b)

-- a / b rounded up
abbrev pub round_up : ℤ → ℕ → ℤ
round_up a b = neg_ℤ (round_down (neg_ℤ a) b)
