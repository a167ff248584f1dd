-- The order of values: null, then numbers by what they are exactly, then texts.
use Rattle.std.specs.Cmp.Lexicographic.{pointwise}
use Rattle.std.specs.Prelude.{ℕ, [], List, ℤ, pos, Bool}
use Rattle.std.specs.Ordering.{nat_cmp, int_cmp, on, then_cmp, eq_by_cmp}
use Rattle.std.specs.declared.cmp.Ordering.{Ordering}
use Rattle.ds2_base.specs.Bytes.{Bytes}
use Rattle.ds2_decimal.specs.Decimal.{value}
use Rattle.ds2_value.specs.Texts.{text_cmp}
use Rattle.ds2_value.specs.declared.value.Value.{Value}
use Rattle.ds2_value.specs.declared.value.Value.TheVariants.{Null, Int, Dec, Txt}

-- null stands before numbers, and numbers before texts
abbrev pub rank : Value → ℕ
rank Null = 0
rank (Int i) = 1
rank (Dec d) = 1
rank (Txt t) = 2

-- a number as a whole number of 10 ^ -38, which is exact for BIGINT and every DECIMAL; 0 for what is no number
abbrev pub exact : Value → ℤ
exact (Int i) = value (record { units = i; scale = 0 })
exact (Dec d) = value d
exact _ = pos 0

-- the text's bytes; none for what is no text
abbrev pub bytes_of : Value → Bytes
bytes_of (Txt t) = t
bytes_of _ = []

-- how two values stand
unfoldable pub key_order : Value → Value → Ordering
key_order = then_cmp (on rank nat_cmp) (then_cmp (on exact int_cmp) (on bytes_of text_cmp))

-- two values are equal where the order does not tell them apart
abbrev pub value_eq : Value → Value → Bool
value_eq = eq_by_cmp key_order

-- two rows, or two keys, are equal in each part
abbrev pub same_row : List Value → List Value → Bool
same_row = pointwise value_eq
