-- The limits of tokens.
use Rattle.std.specs.Prelude.{ℕ, ◌^◌, Bool, true, false, ◌&&◌, ◌==◌, nat_le, nat_lt, if◌then◌else◌, [], ◌∷◌, length, Option, Some, None}
use Rattle.std.specs.List.{filter}
use Rattle.std.specs.Char.{is_ascii_digit}
use Rattle.std.specs.Str.Parse.{digits_value}
use Rattle.ds2_base.specs.Bytes.{Bytes}
use Rattle.ds2_base.specs.Characters.{char_count}
use Rattle.ds2_base.specs.Name.{is_name}
use Rattle.ds2_base.specs.declared.name.TheConstants.{NAME_CHARACTERS}
use Rattle.ds2_decimal.specs.declared.dec.TheConstants.{MOST_DIGITS}
use Rattle.ds2_token.specs.declared.kinds.TokenKind.{TokenKind}
use Rattle.ds2_token.specs.declared.kinds.TokenKind.TheVariants.{Word, Quoted, Text, Integer, Decimal, Mark}
use Rattle.ds2_token.specs.declared.kinds.LexKind.{LexKind}
use Rattle.ds2_token.specs.declared.kinds.LexKind.TheVariants.{NumberTooLong, BadName, TextTooLong}
use Rattle.ds2_token.specs.declared.limits.TheConstants.{CONTENT_CHARACTERS}
use Rattle.ds2_token.specs.Forms.{between_quotes, past_digits}

-- the characters with one quote for each pair of quotes
abbrev pub undoubled : Bytes → Bytes
undoubled [] = []
undoubled (c ∷ []) = c ∷ []
undoubled (c ∷ d ∷ cs) = if c == 39 then c ∷ undoubled cs else c ∷ undoubled (d ∷ cs)

-- the text that a text constant stands for
abbrev pub text_content : Bytes → Bytes
text_content spelling = undoubled (between_quotes spelling)

-- all digits of a number
abbrev pub digits_within : Bytes → Bytes
digits_within spelling = filter is_ascii_digit spelling

-- how many digits of a number stand behind its point
abbrev pub scale_of : Bytes → ℕ
scale_of spelling = length (filter is_ascii_digit (past_digits spelling))

-- the number that all digits write
abbrev pub units_of : Bytes → ℕ
units_of spelling = digits_value 10 (digits_within spelling)

-- the refusal where a limit is broken
abbrev pub unless : Bool → LexKind → Option LexKind
unless true refusal = None
unless false refusal = Some refusal

-- words have at most 64 characters; quotes stand around a name; texts have at most 1,024 characters; integers are below 2 ^ 63;
-- decimals have at most 38 digits, leading zeros not counted, and at most 38 behind the point
abbrev pub limit_fault : TokenKind → Bytes → Option LexKind
limit_fault Word s = unless (nat_le (length s) NAME_CHARACTERS) BadName
limit_fault Quoted s = unless (is_name (between_quotes s)) BadName
limit_fault Text s = unless (nat_le (char_count (text_content s)) CONTENT_CHARACTERS) TextTooLong
limit_fault Integer s = unless (nat_lt (units_of s) (2 ^ 63)) NumberTooLong
limit_fault Decimal s = unless (nat_lt (units_of s) (10 ^ MOST_DIGITS) && nat_le (scale_of s) MOST_DIGITS) NumberTooLong
limit_fault Mark s = None
