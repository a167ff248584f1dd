use Rattle.std.proofs.Common.{◌≡◌, length}
use Rattle.std.specs.Str.{IsUtf8}
use Rattle.ds2_value.specs.Texts.{trimmed}
use Rattle.ds2_value.proofs.texts.trimmed.Given as goal

abbrev pub invariant-blanks : goal.invariant-blanks
invariant-blanks l = IsUtf8 l.rest × (trimmed l.rest ≡ trimmed l.fn.s)

abbrev pub decreases-blanks : goal.decreases-blanks
decreases-blanks l = length l.rest
