use Rattle.std.proofs.Common.{◌≡◌, ◌++◌, drop}
use Rattle.ds2_recorded_walk.specs.MarkedSets.{marks_without}
use Rattle.ds2_recorded_walk.proofs.location_set.marks_without.Given as goal

abbrev pub invariant-marks : goal.invariant-marks
invariant-marks l = l.left ++ marks_without l.number (drop l.mark-index l.marks) l.other ≡ marks_without l.fn.from l.marks l.other
