-- Spelling: the type that a text spells.
use Rattle.std.specs.Prelude.{ℕ, ◌-◌, Bool, ◌||◌, ◌&&◌, ◌==◌, nat_eq, nat_lt, length, take, drop, Option, Some, None, codes, option_map, option_and_then, if◌then◌else◌}
use Rattle.std.specs.List.{before_first, after_first}
use Rattle.std.specs.Option.{option_map_or}
use Rattle.std.specs.Str.{all_ascii_digits}
use Rattle.std.specs.Cmp.Lexicographic.{pointwise}
use Rattle.ds2_base.specs.Bytes.{Bytes}
use Rattle.ds2_value.specs.Types.{in_bounds}
use Rattle.ds2_value.specs.declared.ty.Ty.{Ty}
use Rattle.ds2_value.specs.declared.ty.Ty.TheVariants.{BigInt, Decimal as DecimalOf, Char, Varchar}
use Rattle.ds2_csv_cells.specs.Number.{number_from}

-- a blank of a header cell: a space or a tab
abbrev pub is_blank : ℕ → Bool
is_blank c = (c == 32) || (c == 9)

-- what follows a word at the start of a text
abbrev pub after_word : Bytes → Bytes → Option Bytes
after_word word text = if pointwise nat_eq (take (length word) text) word then Some (drop (length word) text) else None

-- what stands before a parenthesis that closes at the end of a text
abbrev pub before_close : Bytes → Option Bytes
before_close text = if pointwise nat_eq (drop (length text - 1) text) (codes ")") then Some (take (length text - 1) text) else None

-- what stands between a word at the start of a text and a closing parenthesis at its end
abbrev pub inside : Bytes → Bytes → Option Bytes
inside word text = option_and_then before_close (after_word word text)

-- the number that digits spell, at least one of them
abbrev pub number_of : Bytes → Option ℕ
number_of ds = if nat_lt 0 (length ds) && all_ascii_digits ds then Some (number_from 0 ds) else None

-- the decimals of two numbers with a comma between them
abbrev pub decimal_of : Bytes → Option Ty
decimal_of text =
    option_and_then (λ p. option_map (λ s. DecimalOf p s) (number_of (after_first (λ c. c == 44) text))) (number_of (before_first (λ c. c == 44) text))

-- the texts of exactly so many characters
abbrev pub char_of : Bytes → Option Ty
char_of text = option_map (λ n. Char n) (number_of text)

-- the texts of up to so many characters
abbrev pub varchar_of : Bytes → Option Ty
varchar_of text = option_map (λ n. Varchar n) (number_of text)

-- the type that a text spells, whatever its numbers: `bigint`, `decimal(p,s)`, `char(n)` or `varchar(n)`
unfoldable pub type_spelled : Bytes → Option Ty
type_spelled text =
    if pointwise nat_eq text (codes "bigint") then Some BigInt
    else option_map_or decimal_of (inside (codes "decimal(") text)
    (option_map_or char_of (inside (codes "char(") text) (option_map_or varchar_of (inside (codes "varchar(") text) None))

-- a type whose numbers are in their range
abbrev pub bounded : Ty → Option Ty
bounded ty = if in_bounds ty then Some ty else None
