-- The forms of tokens and gaps, before any limit is looked at. A text is the list of its UTF-8 bytes: all that the forms ask for is
-- ASCII, and every other character is part of what stands between quotes or in a comment.
use Rattle.std.specs.Prelude.{ℕ, ◌-◌, Bool, true, false, not, ◌&&◌, ◌||◌, ◌==◌, nat_le, codes, IsTrue, ◌≡◌, if◌then◌else◌, List, [], ◌∷◌, length, take, drop, slice_index, Option, Some, None, Result, Ok, Err}
use Rattle.std.specs.List.{list_all, list_any, take_while, prefix_len, concat}
use Rattle.std.specs.Char.{is_ascii_digit, is_ascii_alphabetic}
use Rattle.std.specs.Str.{bytes_eq}
use Rattle.ds2_token.specs.declared.kinds.TokenKind.{TokenKind}
use Rattle.ds2_token.specs.declared.kinds.TokenKind.TheVariants.{Word, Quoted, Text, Integer, Decimal, Mark}
use Rattle.ds2_token.specs.declared.kinds.LexKind.{LexKind}
use Rattle.ds2_token.specs.declared.kinds.LexKind.TheVariants.{DoubleConstant, OpenText, OpenComment}

-- ---- words and marks

-- a letter or `_`
abbrev pub is_word_letter : ℕ → Bool
is_word_letter c = is_ascii_alphabetic c || c == 95

-- a letter, a digit or `_`
abbrev pub is_word_part : ℕ → Bool
is_word_part c = is_word_letter c || is_ascii_digit c

-- a word: a letter or `_`, then letters, digits and `_`
abbrev pub is_word_form : List ℕ → Bool
is_word_form [] = false
is_word_form (c ∷ cs) = is_word_letter c && list_all is_word_part cs

-- the marks
abbrev pub marks : List (List ℕ)
marks =
    codes ";" ∷ codes "," ∷ codes "(" ∷ codes ")" ∷ codes "[" ∷ codes "]" ∷ codes "=" ∷ codes "^=" ∷ codes "~=" ∷ codes "<" ∷
    codes "<=" ∷ codes ">" ∷ codes ">=" ∷ codes "+" ∷ codes "-" ∷ codes "*" ∷ codes "/" ∷ codes "||" ∷ codes "&" ∷ codes "|" ∷
    codes "^" ∷ codes "~" ∷ codes "." ∷ []

-- it is one of the marks
abbrev pub is_mark_form : List ℕ → Bool
is_mark_form s = list_any (λ mark. bytes_eq mark s) marks

-- ---- quotes

-- two of these characters, one at each end
abbrev pub is_enclosed : ℕ → List ℕ → Bool
is_enclosed quote s = nat_le 2 (length s) && slice_index s 0 == quote && slice_index s (length s - 1) == quote

-- what stands between the first character and the last
abbrev pub between_quotes : List ℕ → List ℕ
between_quotes s = take (length s - 2) (drop 1 s)

-- this character first
abbrev pub begins_with : ℕ → List ℕ → Bool
begins_with c [] = false
begins_with c (d ∷ ds) = d == c

-- a double quote somewhere
abbrev pub holds_double_quote : List ℕ → Bool
holds_double_quote s = list_any (λ c. c == 34) s

-- the single quotes stand in pairs
abbrev pub is_paired : List ℕ → Bool
is_paired [] = true
is_paired (c ∷ []) = not (c == 39)
is_paired (c ∷ d ∷ cs) = if c == 39 then d == 39 && is_paired cs else is_paired (d ∷ cs)

-- a quoted name: double quotes around what holds none
abbrev pub is_quoted_form : List ℕ → Bool
is_quoted_form s = is_enclosed 34 s && not (holds_double_quote (between_quotes s))

-- a text constant: single quotes around what holds them in pairs only
abbrev pub is_text_form : List ℕ → Bool
is_text_form s = is_enclosed 39 s && is_paired (between_quotes s)

-- a quoted name or a text constant without its closing quote
abbrev pub is_open_form : List ℕ → Bool
is_open_form s = begins_with 34 s && not (holds_double_quote (drop 1 s)) || begins_with 39 s && is_paired (drop 1 s)

-- ---- numbers

-- an integer: digits
abbrev pub is_integer_form : List ℕ → Bool
is_integer_form [] = false
is_integer_form (c ∷ cs) = list_all is_ascii_digit (c ∷ cs)

-- the digits at the front
abbrev pub leading_digits : List ℕ → List ℕ
leading_digits s = take_while is_ascii_digit s

-- what stands behind the digits at the front
abbrev pub past_digits : List ℕ → List ℕ
past_digits s = drop (prefix_len is_ascii_digit s) s

-- a point, then digits or none
abbrev pub is_fraction : List ℕ → Bool
is_fraction [] = false
is_fraction (c ∷ cs) = c == 46 && list_all is_ascii_digit cs

-- digits with a point among or behind them
abbrev pub is_pointed_form : List ℕ → Bool
is_pointed_form s = is_integer_form (leading_digits s) && is_fraction (past_digits s)

-- all but the last character
abbrev pub without_last : List ℕ → List ℕ
without_last s = take (length s - 1) s

-- the last character is `n` or `N`
abbrev pub ends_in_n : List ℕ → Bool
ends_in_n s = slice_index s (length s - 1) == 110 || slice_index s (length s - 1) == 78

-- a decimal: digits, with a point among or behind them or without one, and `n`
abbrev pub is_decimal_form : List ℕ → Bool
is_decimal_form s = ends_in_n s && (is_integer_form (without_last s) || is_pointed_form (without_last s))

-- ---- gaps

-- a blank, a tab, a carriage return or a line feed
abbrev pub is_blank_piece : List ℕ → Bool
is_blank_piece s = bytes_eq s (32 ∷ []) || bytes_eq s (9 ∷ []) || bytes_eq s (13 ∷ []) || bytes_eq s (10 ∷ [])

-- `/*` stands at the front
abbrev pub opens_comment : List ℕ → Bool
opens_comment s = bytes_eq (take 2 s) (codes "/*")

-- `*/` stands at the end
abbrev pub closes_comment : List ℕ → Bool
closes_comment s = bytes_eq (drop (length s - 2) s) (codes "*/")

-- `*/` stands somewhere
abbrev pub holds_comment_end : List ℕ → Bool
holds_comment_end [] = false
holds_comment_end (c ∷ cs) = bytes_eq (take 2 (c ∷ cs)) (codes "*/") || holds_comment_end cs

-- a comment: `/*` and `*/` around what holds no `*/`, so that none stands within another
abbrev pub is_comment : List ℕ → Bool
is_comment s = nat_le 4 (length s) && opens_comment s && closes_comment s && not (holds_comment_end (take (length s - 4) (drop 2 s)))

-- a comment without its end
abbrev pub is_open_comment : List ℕ → Bool
is_open_comment s = opens_comment s && not (holds_comment_end (drop 2 s))

-- a gap: blanks and comments, or nothing
abbrev pub IsGap : List ℕ → Type 0
IsGap s = (pieces : List (List ℕ)) × (s ≡ concat pieces) × IsTrue (list_all (λ piece. is_blank_piece piece || is_comment piece) pieces)

-- ---- all forms

-- what a spelling is by its form: a token of a kind, or what is refused whatever its length
abbrev pub form_of : List ℕ → Option (Result TokenKind LexKind)
form_of s =
    if is_word_form s then Some (Ok Word)
    else (if is_quoted_form s then Some (Ok Quoted)
    else (if is_text_form s then Some (Ok Text)
    else (if is_integer_form s then Some (Ok Integer)
    else (if is_decimal_form s then Some (Ok Decimal)
    else (if is_mark_form s then Some (Ok Mark)
    else (if is_pointed_form s then Some (Err DoubleConstant)
    else (if is_open_form s then Some (Err OpenText)
    else (if is_open_comment s then Some (Err OpenComment)
    else None))))))))
