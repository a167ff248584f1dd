-- What the hash of a value reads: nothing that equal values differ in, in whole words of eight bytes. The bytes 253 to 255, which no text has,
-- tell kinds and ends, so that no row has the words of another.
use Rattle.std.specs.Prelude.{ℕ, Bool, zero, suc, nat_lt, ◌==◌, ◌+◌, ◌-◌, ◌*◌, ◌/◌, ◌%◌, ◌^◌, [], ◌∷◌, ◌++◌, length, take, drop, replicate, ℤ, unsigned_abs, cond, if◌then◌else◌}
use Rattle.std.specs.Hash as fed
use Rattle.std.specs.Int.{is_negative}
use Rattle.ds2_base.specs.Bytes.{Bytes}
use Rattle.ds2_value.specs.Order.{exact}
use Rattle.ds2_value.specs.Texts.{trimmed}
use Rattle.ds2_value.specs.declared.value.Value.{Value}
use Rattle.ds2_value.specs.declared.value.Value.TheVariants.{Null, Int, Dec, Txt}

-- m / 10 ^ s with the fewest digits after the point
unfoldable pub lowest : ℕ → ℕ → ℕ × ℕ
lowest m zero = (m, 0)
lowest m (suc s) = if m % 10 == 0 then lowest (m / 10) s else (m, suc s)

-- the sign, the digits, and how many of them stand after the point, of a whole number of 10 ^ -38
abbrev pub digits_of : ℤ → Bool × ℕ × ℕ
digits_of z = (is_negative z, (lowest (unsigned_abs z) 38).0, (lowest (unsigned_abs z) 38).1)

-- a number's first word: its sign, how many words its digits take, and how many of them stand after the point
abbrev pub number_word : Bool → ℕ → ℕ → ℕ
number_word negative words scale = 254 + 256 * cond negative 1 0 + 2 ^ 16 * words + 2 ^ 24 * scale

-- what is fed of a sign and digits: the first word, and behind it the digits in one word, or in two where one does not hold them
unfoldable pub digit_writes : Bool × ℕ × ℕ → fed.HashWrites
digit_writes d =
    if nat_lt d.1 (2 ^ 64) then fed.u128 (number_word d.0 1 d.2 + 2 ^ 64 * d.1)
    else fed.u64 (number_word d.0 2 d.2) ++ fed.u128 d.1

-- how many of the bytes stand in words that they fill
abbrev pub in_words : Bytes → ℕ
in_words bytes = length bytes - length bytes % 8

-- a word of fewer bytes, with 255 behind them
abbrev pub last_word : Bytes → Bytes
last_word bytes = bytes ++ replicate (8 - length bytes) 255

-- what is fed of a text's bytes: the words that they fill, and a word of those left, which tells the end
abbrev pub text_writes : Bytes → fed.HashWrites
text_writes bytes = take (in_words bytes) bytes ∷ last_word (drop (in_words bytes) bytes) ∷ []

-- what is fed of a value: that it is null, its number in lowest terms, or its text without blanks at the end
unfoldable pub value_writes : Value → fed.HashWrites
value_writes Null = fed.u64 253
value_writes (Int i) = digit_writes (digits_of (exact (Int i)))
value_writes (Dec d) = digit_writes (digits_of (exact (Dec d)))
value_writes (Txt t) = text_writes (trimmed t)
