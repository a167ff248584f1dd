use Rattle.std.proofs.Common.{◌≡◌, [], drop}
use Rattle.ds2_value.specs.Texts.{padded_cmp}
use Rattle.ds2_reading.proofs.heads.order_to_blanks.Given as goal

abbrev pub invariant-characters : goal.invariant-characters
invariant-characters l = padded_cmp (drop l.c-index l.rest) [] ≡ padded_cmp l.rest []
