use Rattle.std.proofs.Common.{◌≡◌, false, replicate}
use Rattle.ds2_local.proofs.marks.none_on.Given as goal

abbrev pub invariant-locations : goal.invariant-locations
invariant-locations l = l.bits ≡ replicate l.counter false
