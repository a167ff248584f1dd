-- Texts as the characters that their bytes spell: blanks at the end, and order.
use Rattle.std.specs.Prelude.{ℕ, ◌-◌, ◌==◌, [], ◌∷◌, ◌++◌, length, take, drop, replicate, if◌then◌else◌}
use Rattle.std.specs.Cmp.Lexicographic.{slice_cmp}
use Rattle.std.specs.Ordering.{nat_cmp, on}
use Rattle.std.specs.Str.{chars, encode_utf8_all}
use Rattle.std.specs.declared.cmp.Ordering.{Ordering}
use Rattle.ds2_base.specs.Bytes.{Bytes, Chars}

-- the characters, and blanks after them up to n characters
abbrev pub padded : ℕ → Chars → Chars
padded n cs = cs ++ replicate (n - length cs) 32

-- how characters stand by their codes, the shorter ones padded to the length of the longer ones
unfoldable pub padded_cmp : Chars → Chars → Ordering
padded_cmp x y = slice_cmp nat_cmp (padded (length y) x) (padded (length x) y)

-- how two texts stand
abbrev pub text_cmp : Bytes → Bytes → Ordering
text_cmp = on chars padded_cmp

-- c before characters that have lost their blanks at the end
abbrev pub unless_blank : ℕ → Chars → Chars
unless_blank c [] = if c == 32 then [] else c ∷ []
unless_blank c (d ∷ ds) = c ∷ d ∷ ds

-- the characters without the blanks at their end
unfoldable pub without_blanks : Chars → Chars
without_blanks [] = []
without_blanks (c ∷ cs) = unless_blank c (without_blanks cs)

-- the text without the blanks at its end
abbrev pub trimmed : Bytes → Bytes
trimmed bytes = encode_utf8_all (without_blanks (chars bytes))

-- the text's first n characters
abbrev pub cut_to : ℕ → Bytes → Bytes
cut_to n bytes = encode_utf8_all (take n (chars bytes))

-- what follows the text's first n characters
abbrev pub after_characters : ℕ → Bytes → Bytes
after_characters n bytes = encode_utf8_all (drop n (chars bytes))

-- the text's first n characters, filled with blanks to n
abbrev pub filled_to : ℕ → Bytes → Bytes
filled_to n bytes = encode_utf8_all (padded n (take n (chars bytes)))
