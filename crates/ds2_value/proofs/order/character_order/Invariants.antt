use Rattle.std.proofs.Common.{◌≡◌, ◌+◌, length}
use Rattle.std.specs.Str.{chars, IsUtf8}
use Rattle.std.specs.Str.Iter.{chars_rest}
use Rattle.ds2_value.specs.Texts.{padded_cmp}
use Rattle.ds2_value.proofs.order.character_order.Given as goal

abbrev pub invariant-characters : goal.invariant-characters
invariant-characters l =
    IsUtf8 (chars_rest l.first) × IsUtf8 (chars_rest l.second)
    × (padded_cmp (chars (chars_rest l.first)) (chars (chars_rest l.second)) ≡ padded_cmp (chars l.fn.a) (chars l.fn.b))

abbrev pub decreases-characters : goal.decreases-characters
decreases-characters l = length (chars_rest l.first) + length (chars_rest l.second)
