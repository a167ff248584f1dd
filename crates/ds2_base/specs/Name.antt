-- Names: which texts are names, and the name of a text.
use Rattle.std.specs.Prelude.{◌≡◌, ℕ, Bool, not, ◌&&◌, ◌==◌, ◌-◌, nat_le, nat_lt, length, map, slice_index, if◌then◌else◌, Result, Ok, Err}
use Rattle.std.specs.List.{list_all}
use Rattle.std.specs.Str.{chars, IsUtf8}
use Rattle.std.specs.Char.{to_ascii_lowercase}
use Rattle.ds2_base.specs.Bytes.{Bytes}
use Rattle.ds2_base.specs.Characters.{char_count}
use Rattle.ds2_base.specs.declared.name.BadName.{BadName}
use Rattle.ds2_base.specs.declared.name.TheConstants.{NAME_CHARACTERS}

-- no control character below U+0020, no delete and no byte order mark
abbrev pub is_name_char : ℕ → Bool
is_name_char c = nat_le 32 c && not (c == 127) && not (c == 65279)

-- 1 to 64 characters that may stand in a name, with no blank at an end; a blank is one byte, so the end bytes tell
abbrev pub is_name : Bytes → Bool
is_name bytes =
    nat_lt 0 (length bytes) && nat_le (char_count bytes) NAME_CHARACTERS && list_all is_name_char (chars bytes)
    && not (slice_index bytes 0 == 32) && not (slice_index bytes (length bytes - 1) == 32)

-- the name of a text, its ASCII letters in lower case, or that it is none
abbrev pub name_of : Bytes → Result Bytes BadName
name_of bytes = if is_name bytes then Ok (map to_ascii_lowercase bytes) else Err (record {})

-- the text is its own name
abbrev pub IsOwnName : Bytes → Type 0
IsOwnName bytes = name_of bytes ≡ Ok bytes

-- the bytes are those of a `Name`: a text that is its own name
abbrev pub IsNameBytes : Bytes → Type 0
IsNameBytes bytes = IsOwnName bytes × IsUtf8 bytes
