use Rattle.std.proofs.Common.{◌≡◌, ◌++◌, drop}
use Rattle.ds2_recorded_walk.specs.LocationBits.{both_on}
use Rattle.ds2_recorded_walk.proofs.bits.common.Given as goal

abbrev pub invariant-bits : goal.invariant-bits
invariant-bits l = l.bits ++ both_on (drop l.bit-index l.a) l.others ≡ both_on l.a l.b
