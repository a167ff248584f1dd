-- What operators and conditions make of values.
use Rattle.std.specs.Prelude.{zero, ◌^◌, ◌||◌, Bool, true, false, Option, Some, None, Result, Ok, Err, ℤ, pos, negsuc, ◌+ℤ◌, ◌-ℤ◌, ◌*ℤ◌, neg_ℤ, unsigned_abs, int_rem, nat_lt, if◌then◌else◌}
use Rattle.std.specs.Ordering.{is_eq, is_ne, is_lt, is_le, is_gt, is_ge}
use Rattle.std.specs.declared.cmp.Ordering.{Ordering}
use Rattle.ds2_decimal.specs.Rounding.{is_zero}
use Rattle.ds2_value.specs.Order.{key_order}
use Rattle.ds2_value.specs.declared.comparison.Comparison.{Comparison}
use Rattle.ds2_value.specs.declared.comparison.Comparison.TheVariants as cmp
use Rattle.ds2_value.specs.declared.fault.Fault.{Fault}
use Rattle.ds2_value.specs.declared.fault.Fault.TheVariants.{Overflow, DivideByZero}
use Rattle.ds2_value.specs.declared.truth.Truth.{Truth}
use Rattle.ds2_value.specs.declared.truth.Truth.TheVariants.{Yes, No, Unknown}
use Rattle.ds2_value.specs.declared.value.Value.{Value}
use Rattle.ds2_value.specs.declared.value.Value.TheVariants.{Null, Int, Dec}

-- a number of 64 bits
abbrev pub fits_bigint : ℤ → Bool
fits_bigint (pos n) = nat_lt n (2 ^ 63)
fits_bigint (negsuc n) = nat_lt n (2 ^ 63)

-- the number as a BIGINT, or Overflow where it leaves 64 bits
abbrev pub bigint_of : ℤ → Result Value Fault
bigint_of z = if fits_bigint z then Ok (Int z) else Err Overflow

-- the sum of two BIGINT values; null where one is null
unfoldable pub sum_of : Value → Value → Result Value Fault
sum_of (Int x) (Int y) = bigint_of (x +ℤ y)
sum_of _ _ = Ok Null

-- the difference of two BIGINT values; null where one is null
unfoldable pub difference_of : Value → Value → Result Value Fault
difference_of (Int x) (Int y) = bigint_of (x -ℤ y)
difference_of _ _ = Ok Null

-- the product of two BIGINT values; null where one is null
unfoldable pub product_of : Value → Value → Result Value Fault
product_of (Int x) (Int y) = bigint_of (x *ℤ y)
product_of _ _ = Ok Null

-- a BIGINT value with the other sign; null for null
unfoldable pub negative_of : Value → Result Value Fault
negative_of (Int x) = bigint_of (neg_ℤ x)
negative_of _ = Ok Null

-- a BIGINT value without its sign; null for null
unfoldable pub absolute_of : Value → Result Value Fault
absolute_of (Int x) = bigint_of (pos (unsigned_abs x))
absolute_of _ = Ok Null

-- what whole multiples of a BIGINT value leave of another one, with the sign of this one; null where one is null
unfoldable pub remainder_of : Value → Value → Result Value Fault
remainder_of (Int x) (Int y) = if is_zero y then Err DivideByZero else Ok (Int (int_rem x y))
remainder_of _ _ = Ok Null

-- null
abbrev pub is_null : Value → Bool
is_null Null = true
is_null _ = false

-- how two values stand; None where one is null
unfoldable pub compare_of : Value → Value → Option Ordering
compare_of a b = if is_null a || is_null b then None else Some (key_order a b)

-- whether a comparison holds of two values in this order
abbrev pub holds_for : Comparison → Ordering → Bool
holds_for cmp.Equal order = is_eq order
holds_for cmp.NotEqual order = is_ne order
holds_for cmp.Less order = is_lt order
holds_for cmp.LessOrEqual order = is_le order
holds_for cmp.Greater order = is_gt order
holds_for cmp.GreaterOrEqual order = is_ge order

-- 1 where a comparison holds of an order, 0 where it does not, null where there is no order
abbrev pub compared_as : Comparison → Option Ordering → Value
compared_as comparison None = Null
compared_as comparison (Some order) = if holds_for comparison order then Int (pos 1) else Int (pos 0)

-- 1 where a comparison holds of two values, 0 where it does not, null where one is null
unfoldable pub compared_of : Comparison → Value → Value → Value
compared_of comparison a b = compared_as comparison (compare_of a b)

-- No for 0, else Yes
abbrev pub number_truth : ℤ → Truth
number_truth (pos zero) = No
number_truth _ = Yes

-- a value as a condition: a number other than 0 holds, 0 does not, and what is no number is not known
unfoldable pub truth_of : Value → Truth
truth_of (Int i) = number_truth i
truth_of (Dec d) = number_truth d.units
truth_of _ = Unknown

-- the condition holds
abbrev pub is_yes : Truth → Bool
is_yes Yes = true
is_yes _ = false

-- No where one is No, else Unknown where one is Unknown, else Yes
abbrev pub and_of : Truth → Truth → Truth
and_of No _ = No
and_of Unknown No = No
and_of Unknown _ = Unknown
and_of Yes b = b

-- Yes where one is Yes, else Unknown where one is Unknown, else No
abbrev pub or_of : Truth → Truth → Truth
or_of Yes _ = Yes
or_of Unknown Yes = Yes
or_of Unknown _ = Unknown
or_of No b = b

-- Yes and No change places
abbrev pub not_of : Truth → Truth
not_of Yes = No
not_of No = Yes
not_of Unknown = Unknown

-- the value that is there, or null
abbrev pub or_null : Option Value → Value
or_null None = Null
or_null (Some v) = v
