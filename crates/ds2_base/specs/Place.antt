-- Places: which line and column of a text come next.
use Rattle.std.specs.Prelude.{ℕ, ◌+◌, ◌-◌, ◌^◌, ◌==◌, min, take, if◌then◌else◌}
use Rattle.std.specs.List.{fold}
use Rattle.std.specs.Str.{chars}
use Rattle.ds2_base.specs.Bytes.{Bytes, Chars}
use Rattle.ds2_base.specs.declared.place.Place.{Place}

-- the place of a text's first character
abbrev pub start_place : Place
start_place = record { line = 1; column = 1 }

-- one more, as far as a count goes
abbrev pub next_number : ℕ → ℕ
next_number n = min (n + 1) (2 ^ 32 - 1)

-- the place directly after a character: a line feed ends the line
abbrev pub place_after : Place → ℕ → Place
place_after p c =
    if c == 10 then record { line = next_number p.line; column = 1 } else record { line = p.line; column = next_number p.column }

-- the place directly after these characters, which begin at a place
abbrev pub place_past : Place → Chars → Place
place_past p cs = fold place_after p cs

-- the place of the character with this number, counted from 0, of a text with these bytes; past the last one it is the end
abbrev pub place_at : Bytes → ℕ → Place
place_at bytes n = place_past start_place (take n (chars bytes))
