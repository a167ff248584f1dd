-- The operations on decimals, by whole numbers without bound.
use Rattle.std.specs.Prelude.{ℕ, ◌+◌, ◌-◌, ◌^◌, max, ◌&&◌, nat_le, if◌then◌else◌, ℤ, pos, neg_ℤ, ◌+ℤ◌, ◌-ℤ◌, ◌*ℤ◌, unsigned_abs, int_rem}
use Rattle.std.specs.Prelude.{Option, Some, None, Result, Ok, Err}
use Rattle.std.specs.Option.{option_map_or}
use Rattle.std.specs.Ordering.{int_cmp}
use Rattle.std.specs.declared.cmp.Ordering.{Ordering}
use Rattle.ds2_decimal.specs.declared.dec.DecFault.{DecFault}
use Rattle.ds2_decimal.specs.declared.dec.DecFault.TheVariants.{Overflow, DivideByZero}
use Rattle.ds2_decimal.specs.Decimal.{Decimal, is_within, units_at, value}
use Rattle.ds2_decimal.specs.Rounding.{is_zero, moved_sign, round, round_down, round_up}
use Rattle.ds2_decimal.specs.declared.dec.TheConstants.{MOST_DIGITS}

-- the decimal u / 10 ^ s, or Overflow where u has more than p digits
abbrev pub within : ℕ → ℤ → ℕ → Result Decimal DecFault
within p u s = if is_within p u then Ok (record { units = u; scale = s }) else Err Overflow

-- the decimal u / 10 ^ s, or none where u has more than 38 digits or s is above 38
abbrev pub new : ℤ → ℕ → Option Decimal
new u s = if is_within MOST_DIGITS u && nat_le s MOST_DIGITS then Some (record { units = u; scale = s }) else None

-- the scale to which the operands of a sum are brought
abbrev pub common_scale : Decimal → Decimal → ℕ
common_scale a b = max a.scale b.scale

-- the units of both at their common scale, where both have at most 38 digits there
abbrev pub aligned : Decimal → Decimal → Option (ℤ × ℤ)
aligned a b = let s = common_scale a b in
    if is_within MOST_DIGITS (units_at s a) && is_within MOST_DIGITS (units_at s b) then Some (units_at s a, units_at s b) else None

-- f of the aligned units, at the common scale; Overflow where they, or what f gives, have more than 38 digits
abbrev pub on_aligned : (ℤ → ℤ → ℤ) → Decimal → Decimal → Result Decimal DecFault
on_aligned f a b = option_map_or (λ p. within MOST_DIGITS (f p.0 p.1) (common_scale a b)) (aligned a b) (Err Overflow)

-- a + b
abbrev pub add : Decimal → Decimal → Result Decimal DecFault
add a b = on_aligned (λ x y. x +ℤ y) a b

-- a - b
abbrev pub sub : Decimal → Decimal → Result Decimal DecFault
sub a b = on_aligned (λ x y. x -ℤ y) a b

-- a * b; the scales add up
abbrev pub mul : Decimal → Decimal → Result Decimal DecFault
mul a b = within MOST_DIGITS (a.units *ℤ b.units) (a.scale + b.scale)

-- the scale of a quotient
abbrev pub quotient_scale : Decimal → Decimal → ℕ
quotient_scale a b = max 6 (common_scale a b)

-- the units that the divisor's units divide, with the divisor's sign moved to them
abbrev pub numerator : Decimal → Decimal → ℤ
numerator a b = moved_sign b.units a.units *ℤ pos (10 ^ (quotient_scale a b + b.scale - a.scale))

-- a / b rounded, a half away from zero; DivideByZero where b is 0
abbrev pub div : Decimal → Decimal → Result Decimal DecFault
div a b = if is_zero b.units then Err DivideByZero else within MOST_DIGITS (round (numerator a b) (unsigned_abs b.units)) (quotient_scale a b)

-- what is left of a after as many whole b as go into it, with the sign of a; DivideByZero, where b is 0, comes before Overflow
abbrev pub modulo : Decimal → Decimal → Result Decimal DecFault
modulo a b = if is_zero b.units then Err DivideByZero else on_aligned int_rem a b

-- d at scale s with at most p digits: more digits after the point are zeros, fewer are rounded
abbrev pub rescale : ℕ → ℕ → Decimal → Result Decimal DecFault
rescale p s d = within p (if nat_le d.scale s then units_at s d else round d.units (10 ^ (d.scale - s))) s

-- d with the other sign
abbrev pub neg : Decimal → Decimal
neg d = record { units = neg_ℤ d.units; scale = d.scale }

-- d without its sign
abbrev pub abs : Decimal → Decimal
abs d = record { units = pos (unsigned_abs d.units); scale = d.scale }

-- d rounded down to a whole number
abbrev pub floor : Decimal → Decimal
floor d = record { units = round_down d.units (10 ^ d.scale); scale = 0 }

-- d rounded up to a whole number
abbrev pub ceil : Decimal → Decimal
ceil d = record { units = round_up d.units (10 ^ d.scale); scale = 0 }

-- how two decimals stand by their exact values
abbrev pub compare : Decimal → Decimal → Ordering
compare a b = int_cmp (value a) (value b)
