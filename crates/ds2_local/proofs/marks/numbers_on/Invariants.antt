use Rattle.std.proofs.Common.{◌≡◌}
use Rattle.std.specs.List.{filter, range_with_len}
use Rattle.ds2_recorded_walk.specs.LocationBits.{is_on}
use Rattle.ds2_local.proofs.marks.numbers_on.Given as goal

abbrev pub invariant-locations : goal.invariant-locations
invariant-locations l = l.numbers ≡ filter (is_on l.bits) (range_with_len 0 l.number)
