-- What a decimal number is: a whole number of units, each 10 ^ -scale.
use Rattle.std.specs.Prelude.{ℕ, ◌-◌, ◌^◌, ◌≤◌, Bool, nat_lt, ℤ, pos, ◌*ℤ◌, unsigned_abs, length, IsTrue}
use Rattle.std.specs.Fmt.{decimal}
use Rattle.ds2_decimal.specs.declared.dec.TheConstants.{MOST_DIGITS}

-- the number units / 10 ^ scale
pub record Decimal : Type 0 where
  pub units : ℤ
  pub scale : ℕ

-- z has at most p digits
abbrev pub is_within : ℕ → ℤ → Bool
is_within p z = nat_lt (unsigned_abs z) (10 ^ p)

-- how many digits the units are written with, at least 1
abbrev pub digit_count : Decimal → ℕ
digit_count d = length (decimal (unsigned_abs d.units))

-- a decimal that a `Dec` holds: at most 38 digits, at most 38 of them after the point
pub record IsDecimal (d : Decimal) : Type 0 where
  pub digits : IsTrue (is_within MOST_DIGITS d.units)
  pub scale_bound : d.scale ≤ MOST_DIGITS

-- the units of d at a scale that is no less
abbrev pub units_at : ℕ → Decimal → ℤ
units_at s d = d.units *ℤ pos (10 ^ (s - d.scale))

-- d as a whole number of 10 ^ -38, which is exact for every scale up to 38
abbrev pub value : Decimal → ℤ
value d = units_at MOST_DIGITS d
