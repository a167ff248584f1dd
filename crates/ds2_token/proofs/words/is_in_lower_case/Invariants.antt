use Rattle.std.proofs.Common.{◌≡◌, length}
use Rattle.std.specs.Prelude.{bytes_eq, map}
use Rattle.std.specs.Char.{to_ascii_lowercase}
use Rattle.ds2_token.proofs.words.is_in_lower_case.Given as goal

abbrev pub invariant-letters : goal.invariant-letters
invariant-letters l = bytes_eq (map to_ascii_lowercase l.rest) l.rest ≡ bytes_eq (map to_ascii_lowercase l.letters) l.letters

abbrev pub decreases-letters : goal.decreases-letters
decreases-letters l = length l.rest
