-- What is found at the front of a text, as the private functions compute it.
use Rattle.std.specs.Prelude.{ℕ, zero, suc, ◌+◌, Bool, false, not, ◌&&◌, ◌||◌, ◌==◌, nat_lt, if◌then◌else◌, [], ◌∷◌, length, drop, Option, Some, None, Ok, Err}
use Rattle.std.specs.List.{prefix_len}
use Rattle.std.specs.Char.{is_ascii_digit}
use Rattle.ds2_base.specs.Bytes.{Bytes}
use Rattle.ds2_token.specs.declared.kinds.TokenKind.{TokenKind}
use Rattle.ds2_token.specs.declared.kinds.TokenKind.TheVariants.{Word, Quoted, Text, Integer, Decimal, Mark}
use Rattle.ds2_token.specs.declared.kinds.LexKind.{LexKind}
use Rattle.ds2_token.specs.declared.kinds.LexKind.TheVariants.{DoubleConstant, OpenText, OpenComment}
use Rattle.ds2_token.specs.declared.scan.Found.{Found}
use Rattle.ds2_token.specs.Forms.{is_word_letter, is_word_part, begins_with, opens_comment}

-- ---- gaps

-- a blank, a tab, a carriage return or a line feed
abbrev pub is_blank_byte : ℕ → Bool
is_blank_byte c = c == 32 || c == 9 || c == 13 || c == 10

-- this much further, where something was found
abbrev pub further : ℕ → ℕ → ℕ
further n zero = zero
further n (suc k) = suc k + n

-- `*/` at the front
abbrev pub closes_here : Bytes → Bool
closes_here [] = false
closes_here (c ∷ []) = false
closes_here (c ∷ d ∷ cs) = c == 42 && d == 47

-- the bytes up to and with the first `*/`; 0 where there is none
abbrev pub comment_end : Bytes → ℕ
comment_end [] = 0
comment_end (c ∷ cs) = if closes_here (c ∷ cs) then 2 else further 1 (comment_end cs)

-- the bytes of the blank or the comment at the front; 0 where there is neither
abbrev pub piece_size : Bytes → ℕ
piece_size [] = 0
piece_size (c ∷ []) = if is_blank_byte c then 1 else 0
piece_size (c ∷ d ∷ cs) = if is_blank_byte c then 1 else (if c == 47 && d == 42 then further 2 (comment_end cs) else 0)

-- ---- forms

-- a token of this kind and so many bytes
abbrev pub token_found : TokenKind → ℕ → Found
token_found kind size = record { form = Ok kind; size = size }

-- a form of so many bytes that is refused
abbrev pub fault_found : LexKind → ℕ → Found
fault_found kind size = record { form = Err kind; size = size }

-- behind an opening quote: the bytes before the first double quote
abbrev pub before_double_quote : Bytes → ℕ
before_double_quote cs = prefix_len (λ c. not (c == 34)) cs

-- a quoted name, given what stands behind its opening quote
abbrev pub quoted_found : Bytes → Found
quoted_found cs = if nat_lt (before_double_quote cs) (length cs) then token_found Quoted (before_double_quote cs + 2) else fault_found OpenText (length cs + 1)

-- behind an opening quote: the bytes before the first single quote that is not one of a pair
abbrev pub paired_len : Bytes → ℕ
paired_len [] = 0
paired_len (c ∷ []) = if c == 39 then 0 else 1
paired_len (c ∷ d ∷ cs) = if c == 39 then (if d == 39 then paired_len cs + 2 else 0) else paired_len (d ∷ cs) + 1

-- a text constant, given what stands behind its opening quote
abbrev pub text_found : Bytes → Found
text_found cs = if nat_lt (paired_len cs) (length cs) then token_found Text (paired_len cs + 2) else fault_found OpenText (length cs + 1)

-- how many digits stand at the front
abbrev pub digits_len : Bytes → ℕ
digits_len cs = prefix_len is_ascii_digit cs

-- `n` at the front
abbrev pub begins_with_n : Bytes → Bool
begins_with_n cs = begins_with 110 cs || begins_with 78 cs

-- a number of n bytes up to its point and the digits behind it, given what follows
abbrev pub pointed_found : ℕ → Bytes → Found
pointed_found n rest = if begins_with_n rest then token_found Decimal (n + 1) else fault_found DoubleConstant n

-- a number of n digits, given what follows them
abbrev pub number_after_digits : ℕ → Bytes → Found
number_after_digits n rest =
    if begins_with_n rest then token_found Decimal (n + 1)
    else (if begins_with 46 rest then pointed_found (n + 1 + digits_len (drop 1 rest)) (drop (1 + digits_len (drop 1 rest)) rest)
    else token_found Integer n)

-- the number at the front
abbrev pub number_found : Bytes → Found
number_found text = number_after_digits (digits_len text) (drop (digits_len text) text)

-- the marks of one byte
abbrev pub is_mark_byte : ℕ → Bool
is_mark_byte c =
    c == 59 || c == 44 || c == 40 || c == 41 || c == 91 || c == 93 || c == 61 || c == 60 || c == 62 || c == 43 || c == 45 || c == 42
    || c == 47 || c == 38 || c == 124 || c == 94 || c == 126 || c == 46

-- the marks of two bytes
abbrev pub is_mark_pair : ℕ → ℕ → Bool
is_mark_pair c d = if d == 61 then c == 94 || c == 126 || c == 60 || c == 62 else c == 124 && d == 124

-- the bytes of the mark at the front; 0 where there is none
abbrev pub mark_size : Bytes → ℕ
mark_size [] = 0
mark_size (c ∷ []) = if is_mark_byte c then 1 else 0
mark_size (c ∷ d ∷ cs) = if is_mark_pair c d then 2 else (if is_mark_byte c then 1 else 0)

-- the mark of so many bytes, where there is one
abbrev pub mark_found : ℕ → Option Found
mark_found zero = None
mark_found (suc n) = Some (token_found Mark (suc n))

-- the form at the front of a text that begins with no gap
unfoldable pub found : Bytes → Option Found
found [] = None
found (c ∷ cs) =
    if is_word_letter c then Some (token_found Word (prefix_len is_word_part (c ∷ cs)))
    else (if is_ascii_digit c then Some (number_found (c ∷ cs))
    else (if c == 34 then Some (quoted_found cs)
    else (if c == 39 then Some (text_found cs)
    else (if opens_comment (c ∷ cs) then Some (fault_found OpenComment (length (c ∷ cs)))
    else mark_found (mark_size (c ∷ cs))))))
