-- Characters: how long a text is, given its UTF-8 bytes.
use Rattle.std.specs.Prelude.{ℕ, length}
use Rattle.std.specs.Str.{chars}
use Rattle.ds2_base.specs.Bytes.{Bytes}

-- the number of characters that the bytes spell
abbrev pub char_count : Bytes → ℕ
char_count bytes = length (chars bytes)
