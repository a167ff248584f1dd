-- Decimals whose units have 64 bits.
use Rattle.std.specs.Prelude.{ℕ, ℤ}
use Rattle.ds2_decimal.specs.Decimal.{Decimal}

-- the number of these units at a scale
abbrev pub short_decimal : ℕ → ℤ → Decimal
short_decimal scale units = record { units = units; scale = scale }
