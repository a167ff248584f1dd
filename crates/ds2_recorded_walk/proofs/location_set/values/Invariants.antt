use Rattle.std.proofs.Common.{◌≡◌}
use Rattle.ds2_recorded_walk.specs.MarkedSets.{all_but_marked}
use Rattle.ds2_recorded_walk.proofs.location_set.values.Given as goal

abbrev pub invariant-locations : goal.invariant-locations
invariant-locations l = l.bits ≡ all_but_marked l.number l.out
