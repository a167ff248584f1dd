-- What assignment does to the values of a type that another type takes.
use Rattle.std.specs.Prelude.{◌≡◌, IsTrue, Ok}
use Rattle.std.specs.Str.{IsUtf8}
use Rattle.ds2_decimal.specs.Decimal.{IsDecimal}
use Rattle.ds2_value.specs.Order.{value_eq}
use Rattle.ds2_value.specs.Types.{in_bounds, fits, takes, assign_of}
use Rattle.ds2_value.specs.Value.{fits_bigint}
use Rattle.ds2_value.specs.declared.ty.Ty.{Ty}
use Rattle.ds2_value.specs.declared.value.Value.{Value}
use Rattle.ds2_value.specs.declared.value.Value.TheVariants.{Null, Int, Dec, Txt}

-- a value as it can be held: a number within 64 bits, a decimal within its bounds, a text in UTF-8
abbrev pub IsHeld : Value → Type 0
IsHeld Null = Unit {0}
IsHeld (Int i) = IsTrue (fits_bigint i)
IsHeld (Dec d) = IsDecimal d
IsHeld (Txt t) = IsUtf8 t

-- the values of a type are held
abbrev pub FittingIsHeld : Type 0
FittingIsHeld = (v : Value) (a : Ty) → IsTrue (in_bounds a) → IsTrue (fits v a) → IsHeld v

-- a value that was assigned to a type is of this type
abbrev pub AssignedFits : Type 0
AssignedFits = (v w : Value) (c : Ty) → IsHeld v → IsTrue (in_bounds c) → assign_of v c ≡ Ok w → IsTrue (fits w c)

-- an assigned value keeps a value: it is equal to it, and of the type
abbrev pub KeepsAs : Value → Ty → Type 0
KeepsAs v c = (w : Value) × (assign_of v c ≡ Ok w) × IsTrue (value_eq v w) × IsTrue (fits w c)

-- where a type takes the values of another one, each of these is assigned to it without fault, and kept
abbrev pub AssignKeeps : Type 0
AssignKeeps = (v : Value) (a c : Ty) → IsTrue (in_bounds a) → IsTrue (in_bounds c) → IsTrue (takes c a) → IsTrue (fits v a) → KeepsAs v c
