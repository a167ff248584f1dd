-- Constants as keys, in an order of their own. What it does not tell apart is one constant.
use Rattle.std.specs.Prelude.{◌≡◌, ℕ, nat_eq, Bool, true, false, ◌&&◌, ◌==◌, bytes_eq, ℤ, pos, refl}
use Rattle.std.proofs.Common.{ap, ◌∙◌}
use Rattle.std.specs.declared.cmp.Ordering.{Ordering}
use Rattle.std.specs.Ordering.{nat_cmp, int_cmp, int_eq, ordering_then, is_eq}
use Rattle.std.specs.Cmp.{IsTotalOrder, both_tied, nat_cmp_total, int_cmp_total, on_total, then_total, unsigned_ties}
use Rattle.std.specs.Cmp.Lexicographic.{slice_cmp, nat_list_cmp_total, texts_ties}
use Rattle.ds2_value.specs.Order.{bytes_of}
use Rattle.ds2_value.specs.Types.{same_ty}
use Rattle.ds2_value.specs.declared.ty.Ty.{Ty}
use Rattle.ds2_value.specs.declared.ty.Ty.TheVariants.{BigInt, Decimal as DecimalOf, Char, Varchar}
use Rattle.ds2_value.specs.declared.value.Value.{Value}
use Rattle.ds2_value.specs.declared.value.Value.TheVariants.{Null, Int, Dec, Txt}
use Rattle.ds2_program_code.specs.CodeConstants.{is_one_value}
use Rattle.ds2_constants.specs.ConstantKeys.{is_one_key}
use Rattle.ds2_constants.specs.declared.key.ConstantKey.{ConstantKey}

-- the place of a type's kind
abbrev pub type_number : Ty → ℕ
type_number BigInt = 0
type_number (DecimalOf p s) = 1
type_number (Char n) = 2
type_number (Varchar n) = 3

-- the precision of a decimal type
abbrev pub type_precision : Ty → ℕ
type_precision (DecimalOf p s) = p
type_precision _ = 0

-- the scale of a decimal type, the length of a text type
abbrev pub scale_or_length : Ty → ℕ
scale_or_length BigInt = 0
scale_or_length (DecimalOf p s) = s
scale_or_length (Char n) = n
scale_or_length (Varchar n) = n

-- by kind, precision, and scale or length
abbrev pub type_cmp : Ty → Ty → Ordering
type_cmp t u = ordering_then (nat_cmp (type_number t) (type_number u)) (ordering_then (nat_cmp (type_precision t) (type_precision u)) (nat_cmp (scale_or_length t) (scale_or_length u)))

-- the place of a value's kind
abbrev pub value_number : Value → ℕ
value_number Null = 0
value_number (Int i) = 1
value_number (Dec d) = 2
value_number (Txt t) = 3

-- a number's units
abbrev pub value_units : Value → ℤ
value_units (Int i) = i
value_units (Dec d) = d.units
value_units _ = pos 0

-- a decimal's scale
abbrev pub value_scale : Value → ℕ
value_scale (Dec d) = d.scale
value_scale _ = 0

-- by kind, units, scale and text
abbrev pub value_cmp : Value → Value → Ordering
value_cmp v w =
    ordering_then (nat_cmp (value_number v) (value_number w))
    (ordering_then (int_cmp (value_units v) (value_units w)) (ordering_then (nat_cmp (value_scale v) (value_scale w)) (slice_cmp nat_cmp (bytes_of v) (bytes_of w))))

-- by type and then by value
abbrev pub key_cmp : ConstantKey → ConstantKey → Ordering
key_cmp a b = ordering_then (type_cmp a.ty b.ty) (value_cmp a.value b.value)

-- ---- it is a total order

type_total : IsTotalOrder type_cmp
type_total = then_total (on_total type_number nat_cmp_total) (then_total (on_total type_precision nat_cmp_total) (on_total scale_or_length nat_cmp_total))

value_total : IsTotalOrder value_cmp
value_total =
    then_total (on_total value_number nat_cmp_total)
    (then_total (on_total value_units int_cmp_total) (then_total (on_total value_scale nat_cmp_total) (on_total bytes_of nat_list_cmp_total)))

-- the order of keys is total
pub key_total : IsTotalOrder key_cmp
key_total = then_total (on_total (λ (k : ConstantKey). k.ty) type_total) (on_total (λ (k : ConstantKey). k.value) value_total)

-- ---- it tells constants apart

and_none : (b : Bool) → b ≡ (b && true)
and_none true = refl
and_none false = refl

type_is_one : (t u : Ty) → same_ty t u ≡ ((type_number t == type_number u) && ((type_precision t == type_precision u) && (scale_or_length t == scale_or_length u)))
type_is_one BigInt BigInt = refl
type_is_one (DecimalOf p s) (DecimalOf q t) = refl
type_is_one (Char n) (Char m) = refl
type_is_one (Varchar n) (Varchar m) = refl
type_is_one _ _ = refl

value_is_one : (v w : Value)
    → is_one_value v w ≡ ((value_number v == value_number w) && (int_eq (value_units v) (value_units w) && ((value_scale v == value_scale w) && bytes_eq (bytes_of v) (bytes_of w))))
value_is_one Null Null = refl
value_is_one (Int i) (Int j) = and_none (int_eq i j)
value_is_one (Dec d) (Dec e) = ap (λ b. int_eq d.units e.units && b) (and_none (nat_eq d.scale e.scale))
value_is_one (Txt a) (Txt b) = refl
value_is_one _ _ = refl

type_tied : (t u : Ty) → same_ty t u ≡ is_eq (type_cmp t u)
type_tied t u =
    type_is_one t u
    ∙ both_tied _ _ _ _ (unsigned_ties (type_number t) (type_number u))
    (both_tied _ _ _ _ (unsigned_ties (type_precision t) (type_precision u)) (unsigned_ties (scale_or_length t) (scale_or_length u)))

value_tied : (v w : Value) → is_one_value v w ≡ is_eq (value_cmp v w)
value_tied v w =
    value_is_one v w
    ∙ both_tied _ _ _ _ (unsigned_ties (value_number v) (value_number w))
    (both_tied _ _ (int_cmp (value_units v) (value_units w)) _ refl (both_tied _ _ _ _ (unsigned_ties (value_scale v) (value_scale w)) (texts_ties (bytes_of v) (bytes_of w))))

-- two keys are one constant where their order ties them
pub key_tied : (a b : ConstantKey) → is_one_key a b ≡ is_eq (key_cmp a b)
key_tied a b = both_tied _ _ _ _ (type_tied a.ty b.ty) (value_tied a.value b.value)
