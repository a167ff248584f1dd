-- What a list of numbers is.
use Rattle.std.specs.Prelude.{ℕ, List}

-- the bytes of a text, a name or a file
abbrev pub Bytes : Type 0
Bytes = List ℕ

-- the characters of a text, by their codes
abbrev pub Chars : Type 0
Chars = List ℕ
