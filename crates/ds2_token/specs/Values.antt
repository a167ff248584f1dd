-- The values that tokens stand for.
use Rattle.std.specs.Prelude.{ℕ, pos, ◌^◌, ◌==◌, ℤ, nat_lt, drop, if◌then◌else◌, Option, Some, None, Result, Err}
use Rattle.std.specs.Str.{is_utf8}
use Rattle.ds2_base.specs.Bytes.{Bytes}
use Rattle.ds2_base.specs.Name.{name_of}
use Rattle.ds2_base.specs.Text.{text_of}
use Rattle.ds2_base.specs.declared.name.BadName.{BadName}
use Rattle.ds2_decimal.specs.Decimal.{Decimal}
use Rattle.ds2_decimal.specs.Arithmetic.{new}
use Rattle.ds2_token.specs.declared.token.Token.{Token}
use Rattle.ds2_token.specs.Forms.{between_quotes}
use Rattle.ds2_token.specs.Limits.{text_content, units_of, scale_of}
use Rattle.ds2_token.specs.Words.{quoted_kind}

-- what follows a character: behind a quote, the other quote of its pair is passed
abbrev pub past_quote : ℕ → Bytes → Bytes
past_quote c after = if c == 39 then drop 1 after else after

-- a number, where it is below a limit
abbrev pub below : ℕ → ℕ → Option ℕ
below limit n = if nat_lt n limit then Some n else None

-- the letters of a token's name: what stands between its quotes, where it has some
abbrev pub name_letters : Token → Bytes
name_letters t = if quoted_kind t.kind then between_quotes t.spelling else t.spelling

-- the name with these bytes, where they are a text
abbrev pub name_of_bytes : Bytes → Result Bytes BadName
name_of_bytes bytes = if is_utf8 bytes then name_of bytes else Err (record {})

-- the name that a token stands for
abbrev pub token_name : Token → Result Bytes BadName
token_name t = name_of_bytes (name_letters t)

-- the text that a token stands for
abbrev pub token_text : Token → Option Bytes
token_text t = text_of (text_content t.spelling)

-- an integer of 64 bits
abbrev pub integer_within : ℕ → Option ℤ
integer_within n = if nat_lt n (2 ^ 63) then Some (pos n) else None

-- the integer that a token stands for
abbrev pub token_integer : Token → Option ℤ
token_integer t = integer_within (units_of t.spelling)

-- the decimal that a token stands for: all its digits, and as many of them behind the point as stand there
abbrev pub token_decimal : Token → Option Decimal
token_decimal t = new (pos (units_of t.spelling)) (scale_of t.spelling)
