use Rattle.std.proofs.Common.{◌≡◌, drop}
use Rattle.std.specs.Str.{chars, IsUtf8}
use Rattle.std.specs.Str.Iter.{chars_rest}
use Rattle.ds2_value.proofs.texts.after_characters.Given as goal

abbrev pub invariant-loop-i : goal.invariant-loop-i
invariant-loop-i l = IsUtf8 (chars_rest l.rest) × (chars (chars_rest l.rest) ≡ drop l.i (chars l.s))
