-- Types: their bounds, the values of a type, the join of two types, assignment to a type.
use Rattle.std.specs.Prelude.{◌≡◌, IsTrue, ℕ, ℤ, ◌+◌, ◌-◌, ◌==◌, max, nat_le, Bool, true, false, ◌&&◌, if◌then◌else◌, Option, Some, None, Result, Ok, Err}
use Rattle.std.specs.Int.{is_in_range}
use Rattle.std.specs.Str.{is_utf8}
use Rattle.ds2_base.specs.Characters.{char_count}
use Rattle.ds2_decimal.specs.Arithmetic.{rescale}
use Rattle.ds2_decimal.specs.Decimal.{Decimal, is_within}
use Rattle.ds2_decimal.specs.declared.dec.TheConstants.{MOST_DIGITS}
use Rattle.ds2_decimal.specs.declared.dec.DecFault.{DecFault}
use Rattle.ds2_decimal.specs.declared.dec.DecFault.TheVariants as dec_fault
use Rattle.ds2_value.specs.Texts.{cut_to, filled_to}
use Rattle.ds2_value.specs.Value.{fits_bigint}
use Rattle.ds2_value.specs.declared.fault.Fault.{Fault}
use Rattle.ds2_value.specs.declared.fault.Fault.TheVariants.{Overflow, DivideByZero}
use Rattle.ds2_value.specs.declared.ty.TheConstants.{TEXT_CHARACTERS}
use Rattle.ds2_value.specs.declared.ty.Ty.{Ty}
use Rattle.ds2_value.specs.declared.ty.Ty.TheVariants.{BigInt, Decimal as DecimalOf, Char, Varchar}
use Rattle.ds2_value.specs.declared.value.Value.{Value}
use Rattle.ds2_value.specs.declared.value.Value.TheVariants.{Null, Int, Dec, Txt}

-- at least 1, and at most a limit
abbrev pub is_from_one : ℕ → ℕ → Bool
is_from_one n limit = is_in_range 1 limit n

-- 1 to 38 digits, no more of them after the point than there are; 1 to 1,024 characters
abbrev pub in_bounds : Ty → Bool
in_bounds BigInt = true
in_bounds (DecimalOf p s) = is_from_one p MOST_DIGITS && nat_le s p
in_bounds (Char n) = is_from_one n TEXT_CHARACTERS
in_bounds (Varchar n) = is_from_one n TEXT_CHARACTERS

-- a value is of a type: a number of 64 bits, a decimal of the type's scale and digits, a text in UTF-8 of the type's length;
-- null is of every type
abbrev pub fits : Value → Ty → Bool
fits Null ty = true
fits (Int i) BigInt = fits_bigint i
fits (Dec d) (DecimalOf p s) = (d.scale == s) && is_within p d.units
fits (Txt t) (Char n) = is_utf8 t && (char_count t == n)
fits (Txt t) (Varchar n) = is_utf8 t && nat_le (char_count t) n
fits _ _ = false

-- the decimals that take both p digits, s of them after the point, and q digits, t after it; None where that is above 38 digits
abbrev pub join_decimals : ℕ → ℕ → ℕ → ℕ → Option Ty
join_decimals p s q t =
    let after = max s t in
    let digits = max (p - s) (q - t) + after in
    if nat_le digits MOST_DIGITS then Some (DecimalOf digits after) else None

-- the type that takes the values of both types; None for a number and a text, and for decimals of more than 38 digits.
-- BIGINT counts as 19 digits beside a decimal
abbrev pub join_of : Ty → Ty → Option Ty
join_of BigInt BigInt = Some BigInt
join_of BigInt (DecimalOf q t) = join_decimals 19 0 q t
join_of (DecimalOf p s) BigInt = join_decimals p s 19 0
join_of (DecimalOf p s) (DecimalOf q t) = join_decimals p s q t
join_of (Char n) (Char m) = Some (Char (max n m))
join_of (Char n) (Varchar m) = Some (Varchar (max n m))
join_of (Varchar n) (Char m) = Some (Varchar (max n m))
join_of (Varchar n) (Varchar m) = Some (Varchar (max n m))
join_of _ _ = None

-- a BIGINT as a decimal
abbrev pub whole_decimal : ℤ → Decimal
whole_decimal i = record { units = i; scale = 0 }

-- what a fault of decimals is in a run
abbrev pub fault_of : DecFault → Fault
fault_of dec_fault.Overflow = Overflow
fault_of dec_fault.DivideByZero = DivideByZero

-- the value of a decimal that was computed
abbrev pub decimal_value : Result Decimal DecFault → Result Value Fault
decimal_value (Ok d) = Ok (Dec d)
decimal_value (Err fault) = Err (fault_of fault)

-- the value in a type that it may be assigned to: a number rounded to the type's scale, Overflow where it has more digits than
-- the type; a text cut to n characters, and for CHAR filled with blanks to n. Other types are never met, and give null
abbrev pub assign_of : Value → Ty → Result Value Fault
assign_of (Int i) BigInt = Ok (Int i)
assign_of (Int i) (DecimalOf p s) = decimal_value (rescale p s (whole_decimal i))
assign_of (Dec d) (DecimalOf p s) = decimal_value (rescale p s d)
assign_of (Txt t) (Char n) = Ok (Txt (filled_to n t))
assign_of (Txt t) (Varchar n) = Ok (Txt (cut_to n t))
assign_of _ _ = Ok Null

-- a type takes every value of another one: as many digits before and after the point, as many characters
abbrev pub takes : Ty → Ty → Bool
takes BigInt BigInt = true
takes (DecimalOf p s) BigInt = nat_le (19 + s) p
takes (DecimalOf p s) (DecimalOf q t) = nat_le t s && nat_le (q + s) (p + t)
takes (Char n) (Char m) = nat_le m n
takes (Varchar n) (Char m) = nat_le m n
takes (Varchar n) (Varchar m) = nat_le m n
takes _ _ = false

-- a join does not depend on the order of the two types
abbrev pub JoinCommutes : Type 0
JoinCommutes = (a b : Ty) → join_of a b ≡ join_of b a

-- a join of types in bounds is in bounds and takes the values of both
abbrev pub JoinTakesBoth : Type 0
JoinTakesBoth = (a b c : Ty) → IsTrue (in_bounds a) → IsTrue (in_bounds b) → join_of a b ≡ Some c
    → IsTrue (in_bounds c) × IsTrue (takes c a) × IsTrue (takes c b)

-- each type takes its own values
abbrev pub TakesItself : Type 0
TakesItself = (a : Ty) → IsTrue (takes a a)

-- what takes the values of a type takes the values that this type takes, as where a column is joined over several tables
abbrev pub TakesOnward : Type 0
TakesOnward = (a b c : Ty) → IsTrue (takes b a) → IsTrue (takes c b) → IsTrue (takes c a)

-- two types are equal
abbrev pub same_ty : Ty → Ty → Bool
same_ty BigInt BigInt = true
same_ty (DecimalOf p s) (DecimalOf q t) = (p == q) && (s == t)
same_ty (Char n) (Char m) = n == m
same_ty (Varchar n) (Varchar m) = n == m
same_ty _ _ = false
