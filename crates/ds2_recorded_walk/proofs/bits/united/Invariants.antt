use Rattle.std.proofs.Common.{◌≡◌, ◌++◌, drop}
use Rattle.ds2_recorded_walk.specs.LocationBits.{either_on}
use Rattle.ds2_recorded_walk.proofs.bits.united.Given as goal

abbrev pub invariant-bits : goal.invariant-bits
invariant-bits l = l.bits ++ either_on (drop l.bit-index l.a) l.others ≡ either_on l.a l.b
