-- The marks of one spelling, of which a tree keeps the place.
use Rattle.std.specs.Prelude.{codes}
use Rattle.ds2_base.specs.declared.place.Place.{Place}
use Rattle.ds2_token.specs.declared.token.Token.{Token}
use Rattle.ds2_token.specs.Words.{mark_at}

-- the mark `;` at a place
abbrev pub semicolon_mark : Place → Token
semicolon_mark place = mark_at (codes ";") place

-- the mark `,` at a place
abbrev pub comma_mark : Place → Token
comma_mark place = mark_at (codes ",") place

-- the mark `(` at a place
abbrev pub open_mark : Place → Token
open_mark place = mark_at (codes "(") place

-- the mark `)` at a place
abbrev pub close_mark : Place → Token
close_mark place = mark_at (codes ")") place

-- the mark `[` at a place
abbrev pub bracket_mark : Place → Token
bracket_mark place = mark_at (codes "[") place

-- the mark `]` at a place
abbrev pub bracket_end_mark : Place → Token
bracket_end_mark place = mark_at (codes "]") place

-- the mark `=` at a place
abbrev pub equals_mark : Place → Token
equals_mark place = mark_at (codes "=") place

-- the mark `.` at a place
abbrev pub dot_mark : Place → Token
dot_mark place = mark_at (codes ".") place

-- the mark `-` at a place
abbrev pub minus_mark : Place → Token
minus_mark place = mark_at (codes "-") place

-- the mark `/` at a place
abbrev pub slash_mark : Place → Token
slash_mark place = mark_at (codes "/") place
