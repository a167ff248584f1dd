-- What holds of the definitions: laws over all decimals.
use Rattle.std.specs.Prelude.{◌≡◌, ℕ, ◌+◌, ◌*◌, ◌^◌, ◌<◌, ◌≤◌, ◌⊎◌, ◌↔◌, ℤ, pos, ◌+ℤ◌, ◌-ℤ◌, ◌*ℤ◌, ◌≤ℤ◌, ◌<ℤ◌, unsigned_abs}
use Rattle.std.specs.Prelude.{Some, Ok}
use Rattle.std.specs.declared.cmp.Ordering.TheVariants.{Less, Equal}
use Rattle.std.specs.Cmp.{IsTotalOrder}
use Rattle.ds2_decimal.specs.Decimal.{Decimal, IsDecimal, units_at}
use Rattle.ds2_decimal.specs.Rounding.{round}
use Rattle.ds2_decimal.specs.Arithmetic.{mul, div, rescale, floor, ceil, compare}
use Rattle.ds2_decimal.specs.Text.{read, decimal_text}
use Rattle.ds2_decimal.specs.declared.dec.TheConstants.{MOST_DIGITS}

-- the order is total
abbrev pub CompareIsTotal : Type 0
CompareIsTotal = IsTotalOrder compare

-- a and b are one number: each brought to the other's scale beside its own
abbrev pub IsSameNumber : Decimal → Decimal → Type 0
IsSameNumber a b = a.units *ℤ pos (10 ^ b.scale) ≡ b.units *ℤ pos (10 ^ a.scale)

-- a is the lesser number
abbrev pub IsBelow : Decimal → Decimal → Type 0
IsBelow a b = (a.units *ℤ pos (10 ^ b.scale)) <ℤ (b.units *ℤ pos (10 ^ a.scale))

-- how two decimals stand is how their numbers stand
pub record OrdersNumbers (a b : Decimal) : Type 0 where
  pub same : (compare a b ≡ Equal) ↔ IsSameNumber a b
  pub below : (compare a b ≡ Less) ↔ IsBelow a b

-- the order is that of the numbers, whatever their scales
abbrev pub CompareIsExact : Type 0
CompareIsExact = (a b : Decimal) → a.scale ≤ MOST_DIGITS → b.scale ≤ MOST_DIGITS → OrdersNumbers a b

-- how far q divisors are from a
abbrev pub distance : ℤ → ℕ → ℤ → ℕ
distance a b q = unsigned_abs (a -ℤ q *ℤ pos b)

-- q divisors are at most half a divisor from a, and any other number of which that holds is nearer to 0
pub record IsRounded (a : ℤ) (b : ℕ) (q : ℤ) : Type 0 where
  pub near : 2 * distance a b q ≤ b
  pub others : (r : ℤ) → 2 * distance a b r ≤ b → (r ≡ q) ⊎ (unsigned_abs r < unsigned_abs q)

-- rounding is to the nearest, a half away from zero
abbrev pub RoundIsNearest : Type 0
RoundIsNearest = (a : ℤ) (b : ℕ) → 0 < b → IsRounded a b (round a b)

-- f is the greatest whole number up to d
pub record IsFloor (d f : Decimal) : Type 0 where
  pub scale : f.scale ≡ 0
  pub reached : (f.units *ℤ pos (10 ^ d.scale)) ≤ℤ d.units
  pub next : d.units <ℤ ((f.units +ℤ pos 1) *ℤ pos (10 ^ d.scale))

-- rounding down gives the greatest whole number that is not above
abbrev pub FloorIsGreatest : Type 0
FloorIsGreatest = (d : Decimal) → IsFloor d (floor d)

-- c is the least whole number from d on
pub record IsCeil (d c : Decimal) : Type 0 where
  pub scale : c.scale ≡ 0
  pub reached : d.units ≤ℤ (c.units *ℤ pos (10 ^ d.scale))
  pub previous : ((c.units -ℤ pos 1) *ℤ pos (10 ^ d.scale)) <ℤ d.units

-- rounding up gives the least whole number that is not below
abbrev pub CeilIsLeast : Type 0
CeilIsLeast = (d : Decimal) → IsCeil d (ceil d)

-- a decimal that gets zeros behind it and loses them again is as before
abbrev pub RescaleReturns : Type 0
RescaleReturns = (d e : Decimal) (p s : ℕ) → d.scale ≤ s → rescale p s d ≡ Ok e → rescale p d.scale e ≡ Ok d

-- q times the divisor b, exactly and as `mul` gives it, is at most half a unit of the last place of q, times b, from a
pub record IsNearQuotient (a b q : Decimal) : Type 0 where
  pub exact : 2 * unsigned_abs (units_at (q.scale + b.scale) a -ℤ q.units *ℤ b.units) ≤ unsigned_abs b.units
  pub product : (m : Decimal) → mul q b ≡ Ok m → 2 * unsigned_abs (units_at m.scale a -ℤ m.units) ≤ unsigned_abs b.units

-- each quotient is near the exact one
abbrev pub QuotientIsNear : Type 0
QuotientIsNear = (a b q : Decimal) → div a b ≡ Ok q → IsNearQuotient a b q

-- what is written is read back
abbrev pub ReadsWritten : Type 0
ReadsWritten = (d : Decimal) → IsDecimal d → read (decimal_text d) ≡ Some d
