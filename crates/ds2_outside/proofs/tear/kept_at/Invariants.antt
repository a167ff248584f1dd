use Rattle.std.proofs.Common.{◌≡◌, drop}
use Rattle.ds2_outside.specs.Tears.{kept_at}
use Rattle.ds2_outside.proofs.tear.kept_at.Given as goal

abbrev pub invariant-loop-tear : goal.invariant-loop-tear
invariant-loop-tear l = kept_at l.call l.tears ≡ kept_at l.call (drop l.tear-index l.tears)
