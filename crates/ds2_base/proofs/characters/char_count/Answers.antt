use Rattle.std.proofs.Common.{refl, rules}
use Rattle.std.proofs.lemmas.Str.{chars_from_encodes}
use Rattle.std.proofs.lemmas.Str.{chars-IsAscii}
use Rattle.ds2_base.proofs.characters.char_count.Goals as goal

pub returns : goal.returns
returns c = search (rules, chars_from_encodes)

pub returns-then-is_ascii : goal.returns-then-is_ascii
returns-then-is_ascii c = rw (chars-IsAscii c.args.s.now c.if-is_ascii.ensures.cases) refl
