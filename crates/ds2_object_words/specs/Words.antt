-- The words of an object file: flags, texts, names, types, columns.
use Rattle.std.specs.Prelude.{ℕ, Bool, true, false, ◌&&◌, List, [], ◌∷◌, length, map, Option, Some, None}
use Rattle.std.specs.Char.{to_ascii_lowercase}
use Rattle.std.specs.Str.{is_utf8, bytes_eq}
use Rattle.ds2_base.specs.Bytes.{Bytes}
use Rattle.ds2_base.specs.Name.{is_name}
use Rattle.ds2_token.specs.Words.{is_table_name}
use Rattle.ds2_value.specs.Types.{in_bounds}
use Rattle.ds2_value.specs.declared.schema.Column.{Column}
use Rattle.ds2_value.specs.declared.ty.Ty.{Ty}
use Rattle.ds2_value.specs.declared.ty.Ty.TheVariants.{BigInt, Decimal as DecimalOf, Char, Varchar}
use Rattle.ds2_object_words.specs.Parts.{FormatPart, byte_part, number16_part, number32_part, bytes_part, empty_part, then_part, ◌⨾◌, seen_as, variant_part, checked_part, tagged_part, listed_part}

-- ---- flags

-- 1 where something holds, else 0
abbrev pub flag_code : Bool → ℕ
flag_code false = 0
flag_code true = 1

-- the values of a flag, by their numbers
abbrev pub flag_values : List Bool
flag_values = false ∷ true ∷ []

-- a flag
unfoldable pub flag_part : FormatPart Bool
flag_part = listed_part flag_code flag_values

-- ---- texts and names

-- a length, and so many bytes
abbrev pub counted_part : FormatPart Bytes
counted_part = seen_as (λ (x : ℕ × Bytes). x.1) (λ (t : Bytes). (length t, t)) (then_part number32_part bytes_part)

-- a text in UTF-8
unfoldable pub text_part : FormatPart Bytes
text_part = checked_part is_utf8 counted_part

-- a text is a name without letters in upper case
abbrev pub is_own_name : Bytes → Bool
is_own_name bytes = is_name bytes && bytes_eq (map to_ascii_lowercase bytes) bytes

-- a name
unfoldable pub name_part : FormatPart Bytes
name_part = checked_part is_own_name text_part

-- the name of a table
unfoldable pub table_name_part : FormatPart Bytes
table_name_part = checked_part is_table_name name_part

-- ---- types

-- the tag of a type
abbrev pub type_tag : Ty → ℕ
type_tag BigInt = 0
type_tag (DecimalOf p s) = 1
type_tag (Char n) = 2
type_tag (Varchar n) = 3

-- the type is BIGINT
abbrev pub is_bigint_tag : Ty → Bool
is_bigint_tag BigInt = true
is_bigint_tag _ = false

-- the digits of a decimal type, and how many stand after the point
abbrev pub decimal_digits : Ty → Option (ℕ × ℕ)
decimal_digits (DecimalOf p s) = Some (p, s)
decimal_digits _ = None

-- the length of a CHAR
abbrev pub char_length : Ty → Option ℕ
char_length (Char n) = Some n
char_length _ = None

-- the length of a VARCHAR
abbrev pub varchar_length : Ty → Option ℕ
varchar_length (Varchar n) = Some n
varchar_length _ = None

-- what stands behind the tag of a type, by the tag: nothing, two bytes, a length, a length
abbrev pub type_alternatives : List (FormatPart Ty)
type_alternatives =
    empty_part BigInt is_bigint_tag
    ∷ variant_part (λ (x : ℕ × ℕ). DecimalOf x.0 x.1) decimal_digits (byte_part ⨾ byte_part)
    ∷ variant_part Char char_length number16_part
    ∷ variant_part Varchar varchar_length number16_part
    ∷ []

-- a type in bounds
unfoldable pub type_part : FormatPart Ty
type_part = checked_part in_bounds (tagged_part type_tag type_alternatives)

-- ---- columns

-- a column: its name and its type
unfoldable pub column_part : FormatPart Column
column_part = seen_as (λ (x : Bytes × Ty). record { name = x.0; ty = x.1 }) (λ (c : Column). (c.name, c.ty)) (name_part ⨾ type_part)
